-- Lock step of `vidi_record_top`: in each cycle it does what monitors round the design do.
use Rattle.std.specs.Prelude.{◌≡◌, ℕ, ◌<◌, ◌^◌, Bool, true, List, length, Option, None, Some}
use Rattle.vlog_tree.specs.Tree.{ModuleOf, FileOf}
use Rattle.net_design.specs.declared.design.Design.{Design}
use Rattle.net_design.specs.declared.values.Values.{Values}
use Rattle.net_design.specs.Settled.{initial}
use Rattle.flat_parts.specs.vlog_driver.Names.{Full, State}
use Rattle.flat_parts.specs.vlog_driver.Settled.{IsSettled}
use Rattle.flat_parts.specs.vlog_driver.Next.{IsNext, IsInitial}
use Rattle.flat_parts.specs.Laws.{IsTop}
use Rattle.flat_parts.specs.Meaning.{state_of, AreNarrow}
use Rattle.chan_replayer.specs.trace_model.declared.row.Offers.{Offers}
use Rattle.chan_replayer.specs.trace_model.declared.row.Row.{Row}
use Rattle.chan_replayer.specs.trace_model.Row.{AreOffers}
use Rattle.chan_replayer.specs.chan_map.declared.pins.Map.{Map}
use Rattle.chan_replayer.specs.run_model.Pins.{silent, ArePins}
use Rattle.chan_replayer.specs.run_model.Step as run
use Rattle.chan_replayer.specs.run_model.Step.{IsStep}
use Rattle.chan_replayer.specs.chan_monitor.Shell.{IsShown}
use Rattle.shim_trees.specs.RecordTop.{record_name}
use Rattle.shim_trees.specs.Wrapped.{wrapped}
use Rattle.shim_step.specs.Part.{part, pins_below}
use Rattle.shim_step.specs.Wrapped.{IsWrapped, DUT, Flies}
use Rattle.shim_step.specs.Ports.{HasOffers, HasReset, ShowsRow}

-- the design's state in a state of a top
abbrev pub own_state : Design → State → Values
own_state d s = state_of d (part DUT s)

-- the file with this top: the top, a map settled for it, whose memory words have at most 128 bits
pub record IsCycleOf (file : FileOf ℕ) (name : List ℕ) (top : ModuleOf ℕ) (s : State) (pins : List ℕ) (v : Full → ℕ) : Type 0 where
  pub named : IsTop file name top
  pub settled : IsSettled file.modules top s pins v
  pub narrow : AreNarrow file.modules top s.words

-- the row is what monitors round the design fill in this cycle; the outputs show it; the clock commits it, and then the monitors have the
-- flight that it leaves
pub record Records (f : FileOf ℕ) (a : Map) (d : Design) (top : ModuleOf ℕ) (s : State) (v : Full → ℕ) (before : Option Row)
    (offers : Offers) (gates : ℕ) (row : Row) : Type 0 where
  pub shown : IsShown d a (own_state d s) before offers gates row
  pub ports : ShowsRow a row v
  pub next : (after : State) → IsNext (wrapped f a).modules top s v after
      → IsStep d a (own_state d s) row (own_state d after) × Flies a (Some row) after

-- for all offers and gates there is such a row, with either mark
abbrev pub RecordsRows : Type 0
RecordsRows = (f : FileOf ℕ) (a : Map) (m : ModuleOf ℕ) (d : Design) → IsWrapped f a m d
    → (top : ModuleOf ℕ) (s : State) (pins : List ℕ) (v : Full → ℕ) → IsCycleOf (wrapped f a) record_name top s pins v
    → (before : Option Row) → Flies a before s
    → (offers : Offers) → AreOffers a.channels offers → (gates : ℕ) → gates < 2 ^ length a.channels → HasOffers a offers gates v
    → (fresh : Bool) → (row : Row) × (row.fresh ≡ fresh) × Records f a d top s v before offers gates row

-- in a reset cycle the design's pins are those of one, and afterwards nothing is in flight
abbrev pub RecordsResets : Type 0
RecordsResets = (f : FileOf ℕ) (a : Map) (m : ModuleOf ℕ) (d : Design) → IsWrapped f a m d
    → (top : ModuleOf ℕ) (s : State) (pins : List ℕ) (v : Full → ℕ) → IsCycleOf (wrapped f a) record_name top s pins v
    → (before : Option Row) → Flies a before s → HasReset a v
    → ArePins d a true silent (pins_below m DUT v)
    × ((after : State) → IsNext (wrapped f a).modules top s v after
    → run.IsNext d (pins_below m DUT v) (own_state d s) (own_state d after) × Flies a None after)

-- in the initial state the design is in its own, and nothing is in flight
abbrev pub RecordsBegin : Type 0
RecordsBegin = (f : FileOf ℕ) (a : Map) (m : ModuleOf ℕ) (d : Design) → IsWrapped f a m d
    → (top : ModuleOf ℕ) → IsTop (wrapped f a) record_name top
    → (s : State) → IsInitial (wrapped f a).modules top s → (initial d ≡ own_state d s) × Flies a None s
