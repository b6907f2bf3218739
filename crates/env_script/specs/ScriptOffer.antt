-- *Script offer*: what a script offers on a channel after a list of rows, by first cycles (this project's profile). The rows are those
-- of cycles 0, 1, .. before the present cycle.
use Rattle.std.specs.Prelude.{ℕ, zero, suc, ◌+◌, ◌-◌, Bool, true, false, if◌then◌else◌, nat_le, is_some, List, [], Option, Some, None}
use Rattle.std.specs.Prelude.{length, take, drop, slice_get, count_by}
use Rattle.run_model.specs.trace_model.declared.row.Row.{Row}
use Rattle.run_model.specs.trace_model.Row.{completes}
use Rattle.env_script.specs.declared.script.Step.{Step}
use Rattle.env_script.specs.declared.script.Step.TheVariants.{Send, Take, TakeAll, Wait, After}
use Rattle.env_script.specs.declared.script.Script.{Script}
use Rattle.env_script.specs.Fits.{steps_of}
use Rattle.env_script.specs.Offer.{Offer, nothing}

-- how often channel c completes in the rows from row q on and before row r
abbrev pub completions : List Row → ℕ → ℕ → ℕ → ℕ
completions rows c q r = count_by (λ (row : Row). completes row c) (drop q (take r rows))

-- Whether a step of channel c that was reached in cycle q is over by cycle r: `send` once c has completed since, `take n` once c has
-- completed n times since, `wait n` once n cycles have passed, `after x n` once x has completed n times in all rows before; `take all`
-- never.
abbrev pub is_over : List Row → ℕ → Step → ℕ → ℕ → Bool
is_over rows c (Send content) q r = nat_le 1 (completions rows c q r)
is_over rows c (Take n) q r = nat_le n (completions rows c q r)
is_over rows c TakeAll q r = false
is_over rows c (Wait n) q r = nat_le (q + n) r
is_over rows c (After x n) q r = nat_le n (completions rows x 0 r)

-- the first of the n cycles from cycle q on that passes
abbrev pub first_cycle : (ℕ → Bool) → ℕ → ℕ → Option ℕ
first_cycle test q zero = None
first_cycle test q (suc n) = if test q then Some q else first_cycle test (suc q) n

-- the cycle in which the step behind this one is reached: the first from cycle q on, in which this one was reached, by which it is over;
-- none where that is no cycle up to the present one
abbrev pub reach_next : List Row → ℕ → Option Step → Option ℕ → Option ℕ
reach_next rows c None q = None
reach_next rows c (Some step) None = None
reach_next rows c (Some step) (Some q) = first_cycle (is_over rows c step q) q (suc (length rows) - q)

-- reach(c, j): the cycle in which step j of channel c is reached; step 0 is reached in cycle 0
abbrev pub reach : List Row → ℕ → List Step → ℕ → Option ℕ
reach rows c steps zero = Some 0
reach rows c steps (suc j) = reach_next rows c (slice_get steps j) (reach rows c steps j)

-- the greatest of 0 to n that is reached
abbrev pub last_reached : List Row → ℕ → List Step → ℕ → ℕ
last_reached rows c steps zero = zero
last_reached rows c steps (suc n) = if is_some (reach rows c steps (suc n)) then suc n else last_reached rows c steps n

-- the step that decides in the present cycle: the last that is reached, or the end of the list
abbrev pub deciding : List Row → ℕ → List Step → Option Step
deciding rows c steps = slice_get steps (last_reached rows c steps (length steps))

-- `send` offers valid with its content, `take` offers ready, every other step and the end offer nothing
abbrev pub offer_of : Option Step → Offer
offer_of None = nothing
offer_of (Some (Send content)) = record { valid = true; content = content; ready = false }
offer_of (Some (Take n)) = record { valid = false; content = []; ready = true }
offer_of (Some TakeAll) = record { valid = false; content = []; ready = true }
offer_of (Some (Wait n)) = nothing
offer_of (Some (After x n)) = nothing

-- what a script offers on channel c after these rows
abbrev pub script_offer : Script → List Row → ℕ → Offer
script_offer script rows c = offer_of (deciding rows c (steps_of script c))
