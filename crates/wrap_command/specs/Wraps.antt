-- What `wrap DESIGN MAP OUT` owes: each step of it in its order, and what is left in OUT.
use Rattle.std.specs.Prelude.{◌≡◌, ℕ, ◌⊎◌, Bool, List, Option, Ok, length}
use Rattle.vidi_bench.specs.vidi_io.Shelf.{Files}
use Rattle.vidi_bench.specs.vidi_io.Writing.{IsCutOff, IsKept, IsWritten}
use Rattle.vlog_tree.specs.Tree.{FileOf}
use Rattle.net_design.specs.declared.design.Design.{Design}
use Rattle.vidi_bench.specs.net_order.Order.{IsOrder}
use Rattle.shim_gen.specs.chan_map.declared.text.MapText.{MapText}
use Rattle.shim_gen.specs.chan_map.declared.pins.Map.{Map}
use Rattle.shim_gen.specs.chan_map.Text.{ReadsMap}
use Rattle.shim_gen.specs.chan_map.Bound.{BindsMap}
use Rattle.shim_gen.specs.shim_trees.Wrapped.{wrapped}
use Rattle.vidi_bench.specs.report_text.declared.reason.Word.TheVariants as words
use Rattle.vidi_bench.specs.vidi_answer.declared.status.Status.{Status}
use Rattle.vidi_bench.specs.vidi_answer.declared.status.Status.TheVariants.{Done}
use Rattle.vidi_bench.specs.Design.{text_limit, IsAccepted, Spelling, Spells}
use Rattle.vidi_bench.specs.Devices.{Mapping}
use Rattle.vidi_bench.specs.Reading.{IsRead, Reading}
use Rattle.wrap_command.specs.Said.{wrapped_line}
use Rattle.wrap_command.specs.Shims.{file_text, IsUnwrapped, IsWrapped}
use Rattle.vidi_bench.specs.Steps.{Ending, IsSaid}

-- ---- what ends the command before anything is written

-- the first reason of two texts, in the order of the steps
abbrev pub RefusedWrap : List ℕ → List ℕ → Ending
RefusedWrap design map = Spelling design (λ f. Mapping map f (IsUnwrapped f))

-- two files, in the order of the words
abbrev pub IsUnwritten : List ℕ → List ℕ → Option Files → (List ℕ → Type 0) → Ending
IsUnwritten design map files ReadFailed =
    Reading text_limit words.Design design files ReadFailed (λ d.
    Reading text_limit words.Map map files ReadFailed (RefusedWrap d))

-- ---- what is wrapped

-- the map is bound to the design that the file means with the map's top; no reason holds
pub record IsFitted (text : MapText) (f : FileOf ℕ) (m : Map) : Type 0 where
  pub design : Design
  pub accepted : IsAccepted text.top f design
  pub drivers : List ℕ
  pub ordered : IsOrder design drivers
  pub bound : BindsMap text design (Ok m)

-- the two texts say this file and this map, and no reason holds of them or of the wrapped tree
pub record IsWrapping (design map : List ℕ) (f : FileOf ℕ) (m : Map) : Type 0 where
  pub spelled : Spells design f
  pub text : MapText
  pub mapped : ReadsMap map (Ok text)
  pub fitted : IsFitted text f m
  pub wrapped : IsWrapped f m

-- the two files are read and accepted
pub record IsWrappable (design map : List ℕ) (files : Option Files) (f : FileOf ℕ) (m : Map) : Type 0 where
  pub design_text : List ℕ
  pub map_text : List ℕ
  pub design_read : IsRead text_limit design files design_text
  pub map_read : IsRead text_limit map files map_text
  pub wrapping : IsWrapping design_text map_text f m

-- this is the text of what the two texts say, wrapped, and the number of its channels
abbrev pub IsPlannedTexts : List ℕ → List ℕ → List ℕ → ℕ → Type 0
IsPlannedTexts design map bytes channels = (f : FileOf ℕ) × (m : Map) × IsWrapping design map f m × (bytes ≡ file_text (wrapped f m))
    × (channels ≡ length m.channels)

-- and of what the two files say
abbrev pub IsPlanned : List ℕ → List ℕ → Option Files → List ℕ → ℕ → Type 0
IsPlanned design map files bytes channels = (f : FileOf ℕ) × (m : Map) × IsWrappable design map files f m
    × (bytes ≡ file_text (wrapped f m)) × (channels ≡ length m.channels)

-- OUT was started once, and is the printed text of the wrapped tree
abbrev pub WrapsFile : FileOf ℕ → Map → List ℕ → Option Files → (Bool → Type 0) → Status → List ℕ → Option Files → Type 0
WrapsFile f m out files Started status said left = IsSaid Done (wrapped_line (length m.channels)) status said
    × IsWritten files out (file_text (wrapped f m)) Started left

abbrev pub Wraps : List ℕ → List ℕ → List ℕ → Option Files → (List ℕ → Type 0) → (Bool → Type 0) → Status → List ℕ → Option Files
    → Type 0
Wraps design map out files ReadFailed Started status said left =
    (IsUnwritten design map files ReadFailed status said × IsKept files Started left)
    ⊎ ((f : FileOf ℕ) × (m : Map) × IsWrappable design map files f m × WrapsFile f m out files Started status said left)

-- ---- writing OUT was cut off

abbrev pub CutsWrap : FileOf ℕ → Map → List ℕ → Option Files → (Bool → Type 0) → Option Files → Type 0
CutsWrap f m out files Started left = IsCutOff files out (file_text (wrapped f m)) Started left

abbrev pub StopsWrapping : List ℕ → List ℕ → List ℕ → Option Files → (Bool → Type 0) → Option Files → Type 0
StopsWrapping design map out files Started left =
    (f : FileOf ℕ) × (m : Map) × IsWrappable design map files f m × CutsWrap f m out files Started left
