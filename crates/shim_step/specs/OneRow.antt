-- What monitors or replayers round a design fill in a cycle is one row, and it is the one that stands on the ports of the top.
use Rattle.std.specs.Prelude.{◌≡◌, ℕ, ◌≤◌, ◌<◌, ◌^◌, List, length, Option}
use Rattle.vlog_tree.specs.Tree.{ModuleOf, FileOf}
use Rattle.net_design.specs.declared.design.Design.{Design}
use Rattle.net_design.specs.declared.values.Values.{Values}
use Rattle.net_design.specs.Lawful.{IsLawful, IsState}
use Rattle.net_design.specs.Pins.{FitPins, HasOneMap}
use Rattle.net_design.specs.Settled as design
use Rattle.net_order.specs.Order.{IsOrder}
use Rattle.flat_parts.specs.vlog_driver.Names.{Full, State}
use Rattle.chan_replayer.specs.trace_model.declared.row.Offers.{Offers}
use Rattle.chan_replayer.specs.trace_model.declared.packet.TheConstants.{MOST_CYCLES}
use Rattle.chan_replayer.specs.trace_model.declared.row.Row.{Row}
use Rattle.chan_replayer.specs.trace_model.Row.{AreOffers}
use Rattle.chan_replayer.specs.chan_map.declared.pins.Map.{Map}
use Rattle.chan_replayer.specs.run_model.MapOf.{IsMapOf}
use Rattle.chan_replayer.specs.chan_monitor.Shell as monitors
use Rattle.chan_replayer.specs.declared.feed.Feed.{Feed}
use Rattle.chan_replayer.specs.Feed.{IsFeedOver}
use Rattle.chan_replayer.specs.Shell as replayers
use Rattle.shim_trees.specs.RecordTop.{record_name}
use Rattle.shim_trees.specs.ReplayTop.{replay_name}
use Rattle.shim_trees.specs.Wrapped.{wrapped}
use Rattle.shim_step.specs.Wrapped.{IsWrapped, Flies, Counts}
use Rattle.shim_step.specs.Ports.{HasOffers, HasFeed}
use Rattle.shim_step.specs.Recording.{own_state, IsCycleOf, Records}
use Rattle.shim_step.specs.Replaying.{Replays}

-- ---- in state s the design settles in at most one way
abbrev pub SettlesOnce : Design → Values → Type 0
SettlesOnce d s = (pins : List ℕ) → FitPins d pins → (u v : Values) → design.IsSettled d s pins u → design.IsSettled d s pins v → u ≡ v

-- a design with one settled map does, in each of its states
abbrev pub StatesSettleOnce : Type 0
StatesSettleOnce = (d : Design) → HasOneMap d → (s : Values) → IsState d s → SettlesOnce d s

-- a lawful design whose drivers have an order does, whatever numbers s has
abbrev pub OrderedSettleOnce : Type 0
OrderedSettleOnce = (d : Design) (order : List ℕ) → IsLawful d → IsOrder d order → (s : Values) → SettlesOnce d s

-- ---- one row of each mark
-- that monitors fill, for these offers and gates
abbrev pub OneRecordedRow : Type 0
OneRecordedRow = (d : Design) (a : Map) → IsMapOf d a → (s : Values) → SettlesOnce d s
    → (before : Option Row) (offers : Offers) (gates : ℕ) (x y : Row)
    → x.fresh ≡ y.fresh → monitors.IsShown d a s before offers gates x → monitors.IsShown d a s before offers gates y → x ≡ y

-- that replayers fill, under this feed
abbrev pub OneReplayedRow : Type 0
OneReplayedRow = (d : Design) (a : Map) → IsMapOf d a → (s : Values) → SettlesOnce d s → (rows : List Row) (feed : Feed) (x y : Row)
    → x.fresh ≡ y.fresh → replayers.IsShown d a s rows feed x → replayers.IsShown d a s rows feed y → x ≡ y

-- ---- on the ports
-- whatever row monitors fill, the top that records shows it
abbrev pub RecordsEach : Type 0
RecordsEach = (f : FileOf ℕ) (a : Map) (m : ModuleOf ℕ) (d : Design) → IsWrapped f a m d
    → (top : ModuleOf ℕ) (s : State) (pins : List ℕ) (v : Full → ℕ) → IsCycleOf (wrapped f a) record_name top s pins v
    → SettlesOnce d (own_state d s) → (before : Option Row) → Flies a before s
    → (offers : Offers) → AreOffers a.channels offers → (gates : ℕ) → gates < 2 ^ length a.channels → HasOffers a offers gates v
    → (row : Row) → monitors.IsShown d a (own_state d s) before offers gates row → Records f a d top s v before offers gates row

-- whatever row replayers fill, the top that replays shows it
abbrev pub ReplaysEach : Type 0
ReplaysEach = (f : FileOf ℕ) (a : Map) (m : ModuleOf ℕ) (d : Design) → IsWrapped f a m d
    → (top : ModuleOf ℕ) (s : State) (pins : List ℕ) (v : Full → ℕ) → IsCycleOf (wrapped f a) replay_name top s pins v
    → SettlesOnce d (own_state d s) → (rows : List Row) → length rows ≤ MOST_CYCLES → Counts a rows s
    → (feed : Feed) → IsFeedOver a.channels feed → HasFeed a feed v
    → (row : Row) → replayers.IsShown d a (own_state d s) rows feed row → Replays f a d top s v rows feed row
