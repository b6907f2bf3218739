-- Stretches of rows that are played: those before the last reset in mid-run, and the rows since.
use Rattle.std.specs.Prelude.{◌≡◌, ℕ, ◌<◌, ◌≤◌, ◌⊎◌, not, Bool, true, false, List, [], ◌∷◌, ◌++◌, Some, All, length, slice_get, take}
use Rattle.chan_replayer.specs.chan_monitor.vidi_bits.Findings.{is_nil}
use Rattle.chan_replayer.specs.trace_model.declared.channel.Channel.{Channel}
use Rattle.chan_replayer.specs.trace_model.declared.row.Row.{Row}
use Rattle.chan_replayer.specs.trace_model.Row.{row_before}
use Rattle.net_design.specs.declared.design.Design.{Design}
use Rattle.net_design.specs.declared.values.Values.{Values}
use Rattle.chan_replayer.specs.chan_map.declared.pins.Map.{Map}
use Rattle.chan_replayer.specs.run_model.Played.{AreStable, IsPlayed, StopsBefore, is_fresh_after}
use Rattle.chan_replayer.specs.run_model.Step.{IsFirst, IsStep}
use Rattle.chan_replayer.specs.run_model.Stretches.{IsTurned, IsUnturned, rows_of}
use Rattle.run_stage.specs.declared.ending.Ending.{Ending}
use Rattle.run_stage.specs.declared.ending.Ending.TheVariants.{Whole, Done, Unstable}
use Rattle.run_stage.specs.Playing.{IsLast}

-- the clock commits the row
abbrev pub GoesTo : (Design → Values → List (List Row) → List Row → Type 0) → Design → Map → Values → List (List Row) → List Row → Row → Type 0
GoesTo runs d m s past here row = (after : Values) × IsStep d m s row after × runs d after past (here ++ row ∷ [])

-- a stage was reset behind these stretches and has shown no row since
abbrev pub BeginsBehind : Design → Map → (Design → Values → List (List Row) → List Row → Type 0) → List (List Row) → Type 0
BeginsBehind d m runs past = (first : Values) × IsFirst d m first × runs d first past []

-- all rows, one after the other
abbrev pub all_rows : List (List Row) → List Row → List Row
all_rows past here = rows_of past ++ here

-- the next row is fresh: it is the first one behind a reset in mid-run
abbrev pub is_fresh_behind : List (List Row) → List Row → Bool
is_fresh_behind past here = is_fresh_after (not (is_nil past)) here

-- Each stretch is played under the rule behind those before it. Behind each but the last a reset comes, for the first time in it; behind no
-- shorter front of the last one does.
pub record ArePlayed (d : Design) (m : Map) (rule : List (List Row) → List Row → Row → Type 0) (turns : List (List Row) → List Row → Type 0)
    (past : List (List Row)) (here : List Row) : Type 0 where
  pub before : (k : ℕ) (rows : List Row) → slice_get past k ≡ Some rows
      → IsTurned (λ (p : List (List Row)). IsPlayed d m (rule p)) turns (take k past) rows
  pub last : IsPlayed d m (rule past) here
  pub unturned : IsUnturned turns past here

-- no row of these is unstable
pub record AllAreStable (channels : List Channel) (past : List (List Row)) (here : List Row) : Type 0 where
  pub before : All (AreStable channels) past
  pub last : AreStable channels here

-- the rows are played under the rule, none of them is unstable, and the stage stands behind them
pub record PlayStretches (d : Design) (m : Map) (rule : List (List Row) → List Row → Row → Type 0) (turns : List (List Row) → List Row → Type 0)
    (runs : Design → Values → List (List Row) → List Row → Type 0) (last : Row) (past : List (List Row)) (here : List Row) : Type 0 where
  pub played : ArePlayed d m rule turns past here
  pub at : runs d (played.last.driven.state (length here)) past here
  pub stable : AllAreStable m.channels past here
  pub last_is : IsLast (row_before here (length here)) last

-- some design plays these rows under the rule, and none of them is unstable
pub record AreRuledStretches (m : Map) (rule : List (List Row) → List Row → Row → Type 0) (turns : List (List Row) → List Row → Type 0)
    (past : List (List Row)) (here : List Row) : Type 0 where
  pub played : ∥ ((d : Design) × ArePlayed d m rule turns past here) ∥₁
  pub stable : AllAreStable m.channels past here

-- no reset comes behind these rows, where there are some since the last one
abbrev pub GoesOn : (List (List Row) → List Row → Type 0) → List (List Row) → List Row → Type 0
GoesOn turns past here = 0 < length here → ¬ turns past here

-- rows behind which it can be asked whether the player is done: the first k of a stretch, of which there is one but before row 0
abbrev pub IsAsked : List (List Row) → ℕ → Type 0
IsAsked past k = (past ≡ []) ⊎ (0 < k)

-- at most n rows, and behind no shorter front of them the player was done
pub record HaveCome (ends : List (List Row) → List Row → Bool → Type 0) (n : ℕ) (past : List (List Row)) (here : List Row) : Type 0 where
  pub within : length (all_rows past here) ≤ n
  pub asked : IsAsked past (length here)
  pub going : (k : ℕ) → k < length here → IsAsked past k → ends past (take k here) false
  pub before : (i : ℕ) (rows : List Row) → slice_get past i ≡ Some rows → (k : ℕ) → k ≤ length rows → IsAsked (take i past) k
      → ends (take i past) (take k rows) false

-- by the answer: there are n rows and the player isn't done; it is done behind so many rows; or it isn't, and there are fewer than n
abbrev pub CameBehind : (List (List Row) → List Row → Bool → Type 0) → ℕ → List (List Row) → List Row → Ending → Type 0
CameBehind ends n past here Whole = (length (all_rows past here) ≡ n) × ends past here false
CameBehind ends n past here (Done cycles) = (length (all_rows past here) ≡ cycles) × ends past here true
CameBehind ends n past here (Unstable channel cycle) =
    (length (all_rows past here) ≡ cycle) × (length (all_rows past here) < n) × ends past here false

-- by the answer: the next row, before which no reset comes, is unstable, on this channel
abbrev pub StopIn : Design → Map → (List (List Row) → List Row → Row → Type 0) → (List (List Row) → List Row → Type 0) → List (List Row)
    → List Row → Ending → Type 0
StopIn d m rule turns past here Whole = Unit {0}
StopIn d m rule turns past here (Done cycles) = Unit {0}
StopIn d m rule turns past here (Unstable channel cycle) = StopsBefore d m (rule past) here channel × GoesOn turns past here
