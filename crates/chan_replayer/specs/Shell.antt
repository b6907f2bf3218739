-- What a replayed design promises of a cycle: *IsReplay* of one row.
use Rattle.std.specs.Prelude.{◌≡◌, ℕ, List, [], ◌∷◌, ◌++◌, Some, length, slice_get}
use Rattle.vec_clock.specs.trace_model.declared.channel.Channel.{Channel}
use Rattle.vec_clock.specs.trace_model.declared.row.Row.{Row}
use Rattle.vec_clock.specs.trace_model.Row.{row_before, IsMarked, IsOver}
use Rattle.net_design.specs.declared.design.Design.{Design}
use Rattle.net_design.specs.declared.values.Values.{Values}
use Rattle.chan_monitor.specs.chan_map.declared.pins.Map.{Map}
use Rattle.chan_monitor.specs.run_model.Played.{all_up}
use Rattle.chan_monitor.specs.run_model.Replay.{done}
use Rattle.chan_monitor.specs.run_model.Step.{IsStep}
use Rattle.chan_replayer.specs.declared.feed.Feed.{Feed}
use Rattle.chan_replayer.specs.Feed.{IsFedOn}

-- a replayed shell runs some design, in some state, after some rows
abbrev pub IsRunning : (Design → Values → List Row → Type 0) → Type 0
IsRunning runs = (d : Design) × (s : Values) × (rows : List Row) × runs d s rows

-- the row of a cycle that begins in state s after these rows, under this feed
pub record IsShown (d : Design) (m : Map) (s : Values) (rows : List Row) (feed : Feed) (row : Row) : Type 0 where
  pub over : IsOver m.channels row
  pub marked : IsMarked (row_before rows (length rows)) row
  pub fed : (c : ℕ) (x : Channel) → slice_get m.channels c ≡ Some x → IsFedOn m.channels feed (done rows) row c x.dir
  pub gates_are : row.gates ≡ all_up m.channels
  pub after : Values
  pub step : IsStep d m s row after

-- the clock commits the row
abbrev pub GoesTo : (Design → Values → List Row → Type 0) → Design → Map → Values → List Row → Row → Type 0
GoesTo runs d m s rows row = (after : Values) × IsStep d m s row after × runs d after (rows ++ row ∷ [])
