-- *IsRun* with all gates up and resets at given times, as an answer, and *Unstable*'s place.
use Rattle.std.specs.Prelude.{◌≡◌, ℕ, ◌≤◌, List, Option, Some, None, All, IfSome, ◌++◌, length}
use Rattle.env_script.specs.trace_model.declared.row.Row.{Row}
use Rattle.env_script.specs.trace_model.Row.{row_before}
use Rattle.net_design.specs.declared.design.Design.{Design}
use Rattle.net_design.specs.declared.values.Values.{Values}
use Rattle.run_stage.specs.chan_map.declared.pins.Map.{Map}
use Rattle.run_stage.specs.run_model.Played.{AreStable}
use Rattle.run_stage.specs.run_model.Run.{AllUp}
use Rattle.run_stage.specs.run_model.Stretches.{AreRun, AreTheRun, IsRunBehind, and_stretch, row_count, rows_of}
use Rattle.env_script.specs.Offer.{Offer}
use Rattle.env_script.specs.Offered.{offers_after}
use Rattle.env_script.specs.Resets.{is_due_behind}
use Rattle.run_stage.specs.declared.ending.Ending.{Ending}
use Rattle.run_stage.specs.declared.ending.Ending.TheVariants.{Whole, Done, Unstable}
use Rattle.bench_run.specs.declared.plain.PlainRun.{PlainRun}
use Rattle.bench_run.specs.declared.plain.Spot.{Spot}

-- the stretches are those of a run of this environment with all gates up, and a reset comes as soon as the next of these times has come
abbrev pub AreRunAllUp : Design → Map → (List Row → ℕ → Offer) → List ℕ → List (List Row) → Type 0
AreRunAllUp d m offer resets stretches = AreRun d m (offers_after m.channels offer) (λ past. AllUp m.channels) (is_due_behind resets) stretches

abbrev pub channel_of : Option Spot → Option ℕ
channel_of None = None
channel_of (Some spot) = Some spot.channel

-- where a run of these rows ends before an unstable one
abbrev pub spot_behind : List Row → Option ℕ → Option Spot
spot_behind rows None = None
spot_behind rows (Some channel) = Some (record { channel = channel; cycle = length rows })

-- the run of n cycles, which ends before the first unstable row; the spot is that row's number, and the lowest channel on which it
-- is unstable
pub record IsPlainRun (d : Design) (m : Map) (offer : List Row → ℕ → Offer) (resets : List ℕ) (n : ℕ) (answer : PlainRun) : Type 0 where
  pub past : List (List Row)
  pub here : List Row
  pub rows : rows_of past ++ here ≡ answer.rows
  pub played : AreTheRun d m (offers_after m.channels offer) (λ before. AllUp m.channels) (is_due_behind resets) n past here
      (channel_of answer.unstable)
  pub cycle : IfSome answer.unstable (λ (spot : Spot). spot.cycle ≡ length answer.rows)

-- the environment stands for the first rows of that run, at most n of them
pub record StandsWithin (stands_for : List Row → Type 0) (d : Design) (m : Map) (offer : List Row → ℕ → Offer) (resets : List ℕ) (n : ℕ)
    : Type 0 where
  pub stretches : List (List Row)
  pub stands : stands_for (rows_of stretches)
  pub played : AreRunAllUp d m offer resets stretches
  pub stable : All (AreStable m.channels) stretches
  pub few : row_count stretches ≤ n

-- the rows are those of such a run's stretches, and this holds of the state behind them and the rows since the last reset
pub record IsBehind (At : Values → List Row → Type 0) (d : Design) (m : Map) (offer : List Row → ℕ → Offer) (resets : List ℕ)
    (rows : List Row) : Type 0 where
  pub past : List (List Row)
  pub here : List Row
  pub rows_are : rows_of past ++ here ≡ rows
  pub played : AreRunAllUp d m offer resets (and_stretch past here)
  pub last : IsRunBehind d m (offers_after m.channels offer) (λ before. AllUp m.channels) past here
  pub at : At (last.driven.state (length here)) here

-- what runs the design goes on behind the rows
abbrev pub GoesOn : (Design → Values → Option Row → Type 0) → Design → Map → (List Row → ℕ → Offer) → List ℕ → List Row → Type 0
GoesOn runs d m offer resets rows = IsBehind (λ state here. runs d state (row_before here (length here))) d m offer resets rows

-- this is the state behind the rows
abbrev pub StandsBehind : Values → Design → Map → (List Row → ℕ → Offer) → List ℕ → List Row → Type 0
StandsBehind state d m offer resets rows = IsBehind (λ last here. last ≡ state) d m offer resets rows

-- where the row is unstable that ends the cycles
abbrev pub spot_of : Ending → Option Spot
spot_of Whole = None
spot_of (Done cycles) = None
spot_of (Unstable channel cycle) = Some (record { channel = channel; cycle = cycle })
