-- The run that is recorded: of a design, under what an environment offers, a plan of stalls and the times of resets (this project's profile).
use Rattle.std.specs.Prelude.{◌≡◌, ℕ, ◌+◌, ◌++◌, zero, suc, ◌&&◌, nat_lt, not, Bool, false, List, Option, length, map, slice_get}
use Rattle.env_script.specs.chan_map.vidi_bits.Findings.{is_nil}
use Rattle.trace_code.specs.trace_model.declared.channel.Channel.{Channel}
use Rattle.trace_code.specs.trace_model.declared.row.Offers.{Offers}
use Rattle.trace_code.specs.trace_model.declared.row.Row.{Row}
use Rattle.trace_code.specs.trace_model.Channel.{content_bytes}
use Rattle.net_design.specs.declared.design.Design.{Design}
use Rattle.env_script.specs.chan_map.declared.pins.Map.{Map}
use Rattle.env_script.specs.run_model.Stretches.{AreRun, AreTheRun, rows_of}
use Rattle.env_script.specs.run_model.Played.{is_fresh_after}
use Rattle.room_ledger.specs.Gates.{Plan, drained, fresh_at, permit_at, put_len, used_at, AreGates}
use Rattle.env_script.specs.declared.stalls.Stalls.{Stalls}
use Rattle.env_script.specs.Plan.{allowance_at}
use Rattle.env_script.specs.Offer.{Offer}
use Rattle.env_script.specs.Offered.{offers_after}
use Rattle.env_script.specs.Resets.{is_due_behind}

-- a design with its map, what is offered after a list of rows, the plan of stalls, the times of resets in mid-run, and the number of cycles
pub record Course : Type 0 where
  pub design : Design
  pub bound : Map
  pub offers : List Row → Offers
  pub plan : Plan
  pub times : List ℕ
  pub cycles : ℕ

-- the plan that the lines of a stalls file say; there may be resets where there are times of them
abbrev pub plan_of : Stalls → List ℕ → Plan
plan_of stalls times = record { capacity = stalls.capacity; allowance = allowance_at stalls.drains; resets = not (is_nil times) }

abbrev pub course : Design → Map → (List Row → ℕ → Offer) → Stalls → List ℕ → ℕ → Course
course d m offer stalls times cycles = record {
  design = d;
  bound = m;
  offers = offers_after m.channels offer;
  plan = plan_of stalls times;
  times = times;
  cycles = cycles;
}

-- b_c of each channel
abbrev pub sizes_of : List Channel → List ℕ
sizes_of channels = map content_bytes channels

-- *Gates* behind these stretches, after the rows since: the next row is fresh where it is the first one behind a reset
abbrev pub gates_behind : List Channel → Plan → List (List Row) → List Row → ℕ → Type 0
gates_behind channels plan past before gates = AreGates (sizes_of channels) plan (rows_of past ++ before) (length (rows_of past ++ before))
    (is_fresh_after (not (is_nil past)) before) gates

-- whether there is the permit of *Gates* in the row before row t; before row 0 there is none
abbrev pub permit_before : List ℕ → Plan → List Row → ℕ → Bool
permit_before sizes plan rows zero = false
permit_before sizes plan rows (suc t) = permit_at sizes plan rows t (fresh_at plan rows t)

-- whether a reset comes behind these rows, of which there is one: the time of the next one has come, and there is the permit in the last row
abbrev pub turns_under : List Channel → Plan → List ℕ → List Row → Bool
turns_under channels plan times rows = is_due_behind times rows && permit_before (sizes_of channels) plan rows (length rows)

abbrev pub turns_of : Course → List Row → Bool
turns_of w = turns_under w.bound.channels w.plan w.times

-- whether a reset comes behind these rows, and of so many cycles there is a row behind it
abbrev pub turns_within : List Channel → Plan → List ℕ → ℕ → List Row → Bool
turns_within channels plan times cycles rows = nat_lt (length rows) cycles && turns_under channels plan times rows

-- *IsRun* under the plan, in stretches from one reset to the next
abbrev pub AreRunOf : Course → List (List Row) → Type 0
AreRunOf w stretches = AreRun w.design w.bound w.offers (gates_behind w.bound.channels w.plan) (turns_of w) stretches

-- *IsRun* under the plan: the rows are those of such stretches
pub record IsRunOf (w : Course) (rows : List Row) : Type 0 where
  pub stretches : List (List Row)
  pub rows_are : rows_of stretches ≡ rows
  pub run : AreRunOf w stretches

-- the run in stretches, of which `here` is the last, and the channel on which the row behind it is unstable, if there is one
abbrev pub AreTheRunOf : Course → List (List Row) → List Row → Option ℕ → Type 0
AreTheRunOf w past here stop =
    AreTheRun w.design w.bound w.offers (gates_behind w.bound.channels w.plan) (turns_of w) w.cycles past here stop

-- the run: the rows are those of such stretches
pub record IsTheRunOf (w : Course) (rows : List Row) (stop : Option ℕ) : Type 0 where
  pub past : List (List Row)
  pub here : List Row
  pub rows_are : rows_of past ++ here ≡ rows
  pub run : AreTheRunOf w past here stop

-- the bytes that drain after row t, behind which a fresh row comes or not
abbrev pub drained_after : List ℕ → Plan → List Row → ℕ → Bool → ℕ
drained_after sizes plan rows t fresh =
    drained (plan.allowance t) (used_at sizes plan rows t (fresh_at plan rows t) + put_len sizes (slice_get rows t) fresh)

-- the bytes that drain after the rows before row t, which is fresh or not
abbrev pub drained_before : List ℕ → Plan → List Row → ℕ → Bool → ℕ
drained_before sizes plan rows zero fresh = 0
drained_before sizes plan rows (suc t) fresh = drained_before sizes plan rows t (fresh_at plan rows t) + drained_after sizes plan rows t fresh
