-- Lock step of `vidi_replay_top`: in each cycle it does what replayers round the design do.
use Rattle.std.specs.Prelude.{◌≡◌, ℕ, ◌≤◌, Bool, true, List, [], ◌∷◌, ◌++◌, length}
use Rattle.vlog_tree.specs.Tree.{ModuleOf, FileOf}
use Rattle.net_design.specs.declared.design.Design.{Design}
use Rattle.net_design.specs.Settled.{initial}
use Rattle.flat_parts.specs.vlog_driver.Names.{Full, State}
use Rattle.flat_parts.specs.vlog_driver.Next.{IsNext, IsInitial}
use Rattle.flat_parts.specs.Laws.{IsTop}
use Rattle.chan_replayer.specs.trace_model.declared.packet.TheConstants.{MOST_CYCLES}
use Rattle.chan_replayer.specs.trace_model.declared.row.Row.{Row}
use Rattle.chan_replayer.specs.chan_map.declared.pins.Map.{Map}
use Rattle.chan_replayer.specs.run_model.Pins.{silent, ArePins}
use Rattle.chan_replayer.specs.run_model.Step as run
use Rattle.chan_replayer.specs.run_model.Step.{IsStep}
use Rattle.chan_replayer.specs.declared.feed.Feed.{Feed}
use Rattle.chan_replayer.specs.Feed.{IsFeedOver}
use Rattle.chan_replayer.specs.Shell.{IsShown}
use Rattle.shim_trees.specs.ReplayTop.{replay_name}
use Rattle.shim_trees.specs.Wrapped.{wrapped}
use Rattle.shim_step.specs.Part.{pins_below}
use Rattle.shim_step.specs.Wrapped.{IsWrapped, DUT, Counts}
use Rattle.shim_step.specs.Ports.{HasFeed, HasNoFeed, ShowsReplay}
use Rattle.shim_step.specs.Recording.{own_state, IsCycleOf}

-- the row is what replayers round the design fill after these rows, under this feed; the outputs and wires show it; the clock commits it,
-- and then the counters have its completions too
pub record Replays (f : FileOf ℕ) (a : Map) (d : Design) (top : ModuleOf ℕ) (s : State) (v : Full → ℕ) (rows : List Row) (feed : Feed)
    (row : Row) : Type 0 where
  pub shown : IsShown d a (own_state d s) rows feed row
  pub ports : ShowsReplay a row v
  pub next : (after : State) → IsNext (wrapped f a).modules top s v after
      → IsStep d a (own_state d s) row (own_state d after) × Counts a (rows ++ row ∷ []) after

-- for all feeds there is such a row, with either mark, after at most so many others that the 32 bits of a counter hold the completions
abbrev pub ReplaysRows : Type 0
ReplaysRows = (f : FileOf ℕ) (a : Map) (m : ModuleOf ℕ) (d : Design) → IsWrapped f a m d
    → (top : ModuleOf ℕ) (s : State) (pins : List ℕ) (v : Full → ℕ) → IsCycleOf (wrapped f a) replay_name top s pins v
    → (rows : List Row) → length rows ≤ MOST_CYCLES → Counts a rows s
    → (feed : Feed) → IsFeedOver a.channels feed → HasFeed a feed v
    → (fresh : Bool) → (row : Row) × (row.fresh ≡ fresh) × Replays f a d top s v rows feed row

-- in a reset cycle the design's pins are those of one, and afterwards nothing is counted
abbrev pub ReplaysResets : Type 0
ReplaysResets = (f : FileOf ℕ) (a : Map) (m : ModuleOf ℕ) (d : Design) → IsWrapped f a m d
    → (top : ModuleOf ℕ) (s : State) (pins : List ℕ) (v : Full → ℕ) → IsCycleOf (wrapped f a) replay_name top s pins v
    → Counts a [] s → HasNoFeed a v
    → ArePins d a true silent (pins_below m DUT v)
    × ((after : State) → IsNext (wrapped f a).modules top s v after
    → run.IsNext d (pins_below m DUT v) (own_state d s) (own_state d after) × Counts a [] after)

-- in the initial state the design is in its own, and nothing is counted
abbrev pub ReplaysBegin : Type 0
ReplaysBegin = (f : FileOf ℕ) (a : Map) (m : ModuleOf ℕ) (d : Design) → IsWrapped f a m d
    → (top : ModuleOf ℕ) → IsTop (wrapped f a) replay_name top
    → (s : State) → IsInitial (wrapped f a).modules top s → (initial d ≡ own_state d s) × Counts a [] s
