-- What is kept of a script from row to row: a place for each channel, and the completions so far.
use Rattle.std.specs.Prelude.{◌≡◌, ℕ, ◌≤◌, ◌<◌, ◌-◌, Bool, false, nat_le, nat_lt, List, Option, Some, None, length, slice_get}
use Rattle.std.specs.Prelude.{slice_index, ◌+◌}
use Rattle.std.specs.Coded.{Unit-prop, le_prop}
use Rattle.run_model.specs.trace_model.declared.channel.Channel.{Channel}
use Rattle.run_model.specs.trace_model.declared.row.Row.{Row}
use Rattle.env_script.specs.declared.script.Step.{Step}
use Rattle.env_script.specs.declared.script.Step.TheVariants.{Send, Take, TakeAll, Wait, After}
use Rattle.env_script.specs.declared.script.Script.{Script}
use Rattle.env_script.specs.Fits.{steps_of}
use Rattle.env_script.specs.declared.place.Place.{Place}
use Rattle.env_script.specs.Offer.{Offer}
use Rattle.env_script.specs.ScriptOffer.{completions, is_over, reach, offer_of, script_offer}

-- the numbers are the completions of each channel in these rows, of which there are this many
pub record AreCounts (rows : List Row) (done : List ℕ) (cycle : ℕ) : Type 0 where
  pub cycle_is : cycle ≡ length rows
  pub each : (x : ℕ) → x < length done → slice_index done x ≡ completions rows x 0 (length rows)

-- the place is at a step of channel c that is reached, in its cycle
pub record IsAt (rows : List Row) (c : ℕ) (steps : List Step) (place : Place) : Type 0 where
  pub within : place.step ≤ length steps
  pub reached : reach rows c steps place.step ≡ Some place.reached
  pub before : place.before ≡ completions rows c 0 place.reached

-- the step at the place wasn't over by any cycle before this one
abbrev pub Waited : List Row → ℕ → List Step → Place → ℕ → Type 0
Waited rows c steps place cycle = (step : Step) → slice_get steps place.step ≡ Some step
    → (u : ℕ) → place.reached ≤ u → u < cycle → is_over rows c step place.reached u ≡ false

-- a place at a reached step that isn't over by this cycle
pub record IsMoved (rows : List Row) (c : ℕ) (steps : List Step) (cycle : ℕ) (place : Place) : Type 0 where
  pub at : IsAt rows c steps place
  pub waited : Waited rows c steps place (cycle + 1)

-- each place is at a reached step that wasn't over by any cycle before this one
pub record ArePlaces (rows : List Row) (script : Script) (places : List Place) (cycle : ℕ) : Type 0 where
  pub at : (c : ℕ) (place : Place) → slice_get places c ≡ Some place → IsAt rows c (steps_of script c) place
  pub waited : (c : ℕ) (place : Place) → slice_get places c ≡ Some place → Waited rows c (steps_of script c) place cycle

-- places and counts stand for these rows: no step at a place is over yet
pub record StandsFor (script : Script) (places : List Place) (done : List ℕ) (cycle : ℕ) (rows : List Row) : Type 0 where
  pub counts : AreCounts rows done cycle
  pub places_are : ArePlaces rows script places (cycle + 1)

-- the step at a place
abbrev pub step_at : Script → ℕ → Option Place → Option Step
step_at script c None = None
step_at script c (Some place) = slice_get (steps_of script c) place.step

-- what is offered at the places
abbrev pub offer_at : Script → List Place → ℕ → Offer
offer_at script places c = offer_of (step_at script c (slice_get places c))

-- at places that stand for rows is offered what the script offers after them
abbrev pub OffersAtPlaces : List Channel → Script → Type 0
OffersAtPlaces channels script = (places : List Place) (done : List ℕ) (cycle : ℕ) (rows : List Row) → length places ≡ length channels
    → StandsFor script places done cycle rows → (c : ℕ) → offer_at script places c ≡ script_offer script rows c

-- whether the step at a place is over, by the counts
abbrev pub over_now : List ℕ → ℕ → ℕ → Step → Place → Bool
over_now done c cycle (Send content) place = nat_lt place.before (slice_index done c)
over_now done c cycle (Take n) place = nat_le n (slice_index done c - place.before)
over_now done c cycle TakeAll place = false
over_now done c cycle (Wait n) place = nat_le n (cycle - place.reached)
over_now done c cycle (After x n) place = nat_le n (slice_index done x)

-- a step that waits for a channel waits for one of n
abbrev pub ReadsWithin : ℕ → Step → Type 0
ReadsWithin n (Send content) = Unit {0}
ReadsWithin n (Take count) = Unit {0}
ReadsWithin n TakeAll = Unit {0}
ReadsWithin n (Wait cycles) = Unit {0}
ReadsWithin n (After x count) = x < n

-- of which there is one proof at most
pub reads_prop : (n : ℕ) (step : Step) → IsProp (ReadsWithin n step)
reads_prop n (Send content) = Unit-prop
reads_prop n (Take count) = Unit-prop
reads_prop n TakeAll = Unit-prop
reads_prop n (Wait cycles) = Unit-prop
reads_prop n (After x count) = le_prop

abbrev pub AllReadWithin : ℕ → List Step → Type 0
AllReadWithin n steps = (j : ℕ) (step : Step) → slice_get steps j ≡ Some step → ReadsWithin n step
