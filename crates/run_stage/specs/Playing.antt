-- What a stage promises of a cycle, where it stands between two, and how cycles end.
use Rattle.std.specs.Prelude.{◌≡◌, ℕ, ◌<◌, ◌≤◌, Bool, true, false, List, [], Option, None, Some, length, take}
use Rattle.chan_replayer.specs.trace_model.declared.channel.Channel.{Channel}
use Rattle.chan_replayer.specs.trace_model.declared.row.Row.{Row}
use Rattle.chan_replayer.specs.trace_model.Row.{row_before, IsMarked, IsOver}
use Rattle.net_design.specs.declared.design.Design.{Design}
use Rattle.net_design.specs.declared.values.Values.{Values}
use Rattle.chan_replayer.specs.chan_map.declared.pins.Map.{Map}
use Rattle.chan_replayer.specs.chan_monitor.Shell.{HasPlaces}
use Rattle.chan_replayer.specs.run_model.Played.{AreStable, IsPlayed, StopsBefore}
use Rattle.chan_replayer.specs.run_model.Step.{IsFirst, IsStep}
use Rattle.run_stage.specs.declared.ending.Ending.{Ending}
use Rattle.run_stage.specs.declared.ending.Ending.TheVariants.{Whole, Done, Unstable}
use Rattle.run_stage.specs.declared.two_rows.TwoRows.{TwoRows}

-- the row of a cycle that begins in state s after these rows
pub record IsShown (d : Design) (m : Map) (s : Values) (rows : List Row) (allows : List Row → Row → Type 0) (row : Row) : Type 0 where
  pub over : IsOver m.channels row
  pub marked : IsMarked (row_before rows (length rows)) row
  pub allowed : allows rows row
  pub after : Values
  pub step : IsStep d m s row after

-- what a stage runs where it wasn't reset in mid-run: after these rows
abbrev pub since : (Design → Values → List (List Row) → List Row → Type 0) → Design → Values → List Row → Type 0
since runs d s rows = runs d s [] rows

-- a stage was reset and has shown no row since
abbrev pub Begins : Design → Map → (Design → Values → List Row → Type 0) → Type 0
Begins d m runs = (first : Values) × IsFirst d m first × runs d first []

-- what is kept as the last row: where there is none, a row in which no valid is up
abbrev pub IsLast : Option Row → Row → Type 0
IsLast None last = last.valids ≡ 0
IsLast (Some before) last = last ≡ before

-- a row to be driven, and one to be kept as the last
pub record AreOver (channels : List Channel) (rows : TwoRows) : Type 0 where
  pub places : HasPlaces channels rows.row
  pub over : IsOver channels rows.last

-- the rows are played under the rule, none of them is unstable, and the stage stands behind them
pub record Plays (d : Design) (m : Map) (rule : List Row → Row → Type 0) (runs : Design → Values → List Row → Type 0) (last : Row)
    (rows : List Row) : Type 0 where
  pub played : IsPlayed d m rule rows
  pub at : runs d (played.driven.state (length rows)) rows
  pub stable : AreStable m.channels rows
  pub last_is : IsLast (row_before rows (length rows)) last

-- some design plays these rows under the rule, and none of them is unstable
pub record AreRuled (m : Map) (rule : List Row → Row → Type 0) (rows : List Row) : Type 0 where
  pub played : ∥ ((d : Design) × IsPlayed d m rule rows) ∥₁
  pub stable : AreStable m.channels rows

-- at most n rows, and behind no shorter front of them the player was done
pub record HasCome (ends : List Row → Bool → Type 0) (n : ℕ) (rows : List Row) : Type 0 where
  pub within : length rows ≤ n
  pub going : (k : ℕ) → k < length rows → ends (take k rows) false

-- by the answer: there are n rows and the player isn't done; it is done behind so many rows; or it isn't, and there are fewer than n
abbrev pub Came : (List Row → Bool → Type 0) → ℕ → List Row → Ending → Type 0
Came ends n rows Whole = (length rows ≡ n) × ends rows false
Came ends n rows (Done cycles) = (length rows ≡ cycles) × ends rows true
Came ends n rows (Unstable channel cycle) = (length rows ≡ cycle) × (length rows < n) × ends rows false

-- by the answer: the next row is unstable, on this channel
abbrev pub Stops : Design → Map → (List Row → Row → Type 0) → List Row → Ending → Type 0
Stops d m rule rows Whole = Unit {0}
Stops d m rule rows (Done cycles) = Unit {0}
Stops d m rule rows (Unstable channel cycle) = StopsBefore d m rule rows channel
