-- What the texts of a design and a map say together, or the first reason for which they are refused.
use Rattle.std.specs.Prelude.{ℕ, List, Ok, Err}
use Rattle.vlog_tree.specs.Tree.{FileOf}
use Rattle.env_script.specs.trace_model.Channel.{IsTable}
use Rattle.net_design.specs.declared.design.Design.{Design}
use Rattle.net_design.specs.Lawful.{IsLawful}
use Rattle.vlog_design.specs.net_order.Order.{IsOrder}
use Rattle.env_script.specs.chan_map.declared.error.MapError.{MapError}
use Rattle.env_script.specs.chan_map.declared.text.MapText.{MapText}
use Rattle.env_script.specs.chan_map.declared.pins.Map.{Map}
use Rattle.env_script.specs.chan_map.Text.{ReadsMap}
use Rattle.env_script.specs.chan_map.Bound.{BindsMap}
use Rattle.env_script.specs.run_model.MapOf.{IsMapOf}
use Rattle.vidi_answer.specs.report_text.declared.reason.Word.TheVariants as words
use Rattle.vidi_bench.specs.declared.device.Device.{Device}
use Rattle.vidi_bench.specs.Reasons.{map_reason}
use Rattle.vidi_answer.specs.Steps.{Ending, IsRefusalFor, Step}
use Rattle.vidi_bench.specs.Design.{Building, IsAccepted, Spelling, Spells}

-- ---- the reasons M1 to M4 of a map

-- M1
abbrev pub IsNoMap : List ℕ → Ending
IsNoMap bytes status said = (error : MapError) × ReadsMap bytes (Err error) × IsRefusalFor words.Map (map_reason error) status said

-- M2 to M4
abbrev pub IsUnbound : MapText → Design → Ending
IsUnbound text d status said = (error : MapError) × BindsMap text d (Err error) × IsRefusalFor words.Map (map_reason error) status said

-- ---- the steps of the two texts

-- the map is bound to the design, and this comes of it
abbrev pub Binding : MapText → Design → (Map → Ending) → Ending
Binding text d Next = Step (IsUnbound text d) (λ map. BindsMap text d (Ok map)) Next

-- the bytes are the lines of a map, the tree has a design of its top, to which it is bound, and this comes of it
abbrev pub Mapping : List ℕ → FileOf ℕ → (Map → Ending) → Ending
Mapping map f Next = Step (IsNoMap map) (λ text. ReadsMap map (Ok text)) (λ text. Building text.top f (λ d. Binding text d Next))

-- the texts say a design and a map that is bound to it, and this comes of it
abbrev pub Wiring : List ℕ → List ℕ → (Map → Ending) → Ending
Wiring design map Next = Spelling design (λ f. Mapping map f Next)

-- ---- what the two texts say where none is refused

-- the design that the file means with the map's top, and the map bound to it; no reason holds
pub record IsDevice (design map : List ℕ) (v : Device) : Type 0 where
  pub file : FileOf ℕ
  pub spelled : Spells design file
  pub text : MapText
  pub mapped : ReadsMap map (Ok text)
  pub accepted : IsAccepted text.top file v.design
  pub ordered : IsOrder v.design v.order.drivers
  pub bound : BindsMap text v.design (Ok v.map)

-- such a design can be run
pub record IsRunnable (v : Device) : Type 0 where
  pub lawful : IsLawful v.design
  pub ordered : IsOrder v.design v.order.drivers
  pub mapped : IsMapOf v.design v.map
  pub table : IsTable v.map.channels
