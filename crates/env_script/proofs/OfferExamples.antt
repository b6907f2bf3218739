-- *Script offer* on worked examples: what is offered in each cycle, found by hand.
use Rattle.std.specs.Prelude.{◌≡◌, ℕ, ◌+◌, true, false, List, [], ◌∷◌, map, take, refl}
use Rattle.run_model.specs.trace_model.declared.row.Row.{Row}
use Rattle.env_script.specs.declared.script.Step.{Step}
use Rattle.env_script.specs.declared.script.Step.TheVariants.{Send, Take, TakeAll, Wait, After}
use Rattle.env_script.specs.declared.script.Script.{Script}
use Rattle.env_script.specs.Offer.{Offer, nothing}
use Rattle.env_script.specs.ScriptOffer.{script_offer}

-- a row with all gates up, in which the channels of `valids` show valid and those of `readies` ready
abbrev row : ℕ → ℕ → Row
row valids readies = record { fresh = false; gates = 31; valids = valids; readies = readies; contents = []; starts = 0; ends = 0 }

-- the same with all gates down
abbrev shut : ℕ → ℕ → Row
shut valids readies = record { fresh = false; gates = 0; valids = valids; readies = readies; contents = []; starts = 0; ends = 0 }

abbrev script : List (List Step) → Script
script steps = record { cycles = 6; steps = steps; resets = [] }

abbrev sent : List ℕ → Offer
sent content = record { valid = true; content = content; ready = false }

abbrev taken : Offer
taken = record { valid = false; content = []; ready = true }

-- the numbers from t on
abbrev from : {A : Type 0} → ℕ → List A → List ℕ
from t [] = t ∷ []
from t (x ∷ xs) = t ∷ from (t + 1) xs

-- what channel c is offered in each cycle of these rows and in the one behind them
abbrev offers : List (List Step) → List Row → ℕ → List Offer
offers steps rows c = map (λ t. script_offer (script steps) (take t rows) c) (from 0 rows)

-- a register stage: channel 0 sends 5 and then 6, of which the second waits for one cycle; channel 1 takes all
abbrev two_sends : List (List Step)
two_sends = (Send (5 ∷ []) ∷ Send (6 ∷ []) ∷ []) ∷ (TakeAll ∷ []) ∷ []

abbrev two_rows : List Row
two_rows = row 1 3 ∷ row 3 2 ∷ row 1 3 ∷ row 2 2 ∷ row 0 3 ∷ []

two_sends-a : offers two_sends two_rows 0 ≡ sent (5 ∷ []) ∷ sent (6 ∷ []) ∷ sent (6 ∷ []) ∷ nothing ∷ nothing ∷ nothing ∷ []
two_sends-a = refl

two_sends-b : offers two_sends two_rows 1 ≡ taken ∷ taken ∷ taken ∷ taken ∷ taken ∷ taken ∷ []
two_sends-b = refl

-- behind a shut gate a valid stays, since nothing completes
gate_shut : offers two_sends (shut 1 3 ∷ row 1 3 ∷ []) 0 ≡ sent (5 ∷ []) ∷ sent (5 ∷ []) ∷ sent (6 ∷ []) ∷ []
gate_shut = refl

-- a register file: channels aw, w, b, ar and r; ar waits for b in the first round, aw and w for r in the second
abbrev rounds : List (List Step)
rounds = (Send (0 ∷ []) ∷ After 4 1 ∷ Send (4 ∷ []) ∷ [])
    ∷ (Send (1000 ∷ 15 ∷ []) ∷ After 4 1 ∷ Send (1001 ∷ 15 ∷ []) ∷ []) ∷ (TakeAll ∷ [])
    ∷ (After 2 1 ∷ Send (0 ∷ []) ∷ After 2 2 ∷ Send (4 ∷ []) ∷ [])
    ∷ (TakeAll ∷ []) ∷ []

abbrev round_rows : List Row
round_rows = row 3 31 ∷ row 4 28 ∷ row 8 28 ∷ row 16 20 ∷ []

rounds-aw : offers rounds round_rows 0 ≡ sent (0 ∷ []) ∷ nothing ∷ nothing ∷ nothing ∷ sent (4 ∷ []) ∷ []
rounds-aw = refl

rounds-w : offers rounds round_rows 1 ≡ sent (1000 ∷ 15 ∷ []) ∷ nothing ∷ nothing ∷ nothing ∷ sent (1001 ∷ 15 ∷ []) ∷ []
rounds-w = refl

rounds-ar : offers rounds round_rows 3 ≡ nothing ∷ nothing ∷ sent (0 ∷ []) ∷ nothing ∷ nothing ∷ []
rounds-ar = refl

rounds-r : offers rounds round_rows 4 ≡ taken ∷ taken ∷ taken ∷ taken ∷ taken ∷ []
rounds-r = refl

-- `after` on its own channel, satisfied as soon as it is reached: it takes no cycle
after_itself : offers ((Send (1 ∷ []) ∷ After 0 1 ∷ Send (2 ∷ []) ∷ []) ∷ []) (row 1 1 ∷ []) 0 ≡ sent (1 ∷ []) ∷ sent (2 ∷ []) ∷ []
after_itself = refl

-- `after` counts the completions before it was reached: channel 1 completes in cycle 0 alone
after_before : offers ((Wait 2 ∷ After 1 1 ∷ Send (1 ∷ []) ∷ []) ∷ (TakeAll ∷ []) ∷ []) (row 2 2 ∷ row 0 2 ∷ []) 0
    ≡ nothing ∷ nothing ∷ sent (1 ∷ []) ∷ []
after_before = refl

wait_one : offers ((Wait 1 ∷ Send (7 ∷ []) ∷ []) ∷ []) (row 0 1 ∷ row 1 1 ∷ []) 0 ≡ nothing ∷ sent (7 ∷ []) ∷ nothing ∷ []
wait_one = refl

-- two completions, in cycles 0 and 2, and a wait behind them; a second `take` counts from when it is reached
take_two : offers ((Take 2 ∷ Wait 1 ∷ Take 1 ∷ []) ∷ []) (row 1 1 ∷ row 0 1 ∷ row 1 1 ∷ row 1 0 ∷ row 1 1 ∷ []) 0
    ≡ taken ∷ taken ∷ taken ∷ nothing ∷ taken ∷ nothing ∷ []
take_two = refl

-- behind `take all` nothing comes
take_all_first : offers ((TakeAll ∷ Wait 1 ∷ []) ∷ []) (row 1 1 ∷ row 1 1 ∷ []) 0 ≡ taken ∷ taken ∷ taken ∷ []
take_all_first = refl

no_steps : offers ([] ∷ []) (row 0 0 ∷ []) 0 ≡ nothing ∷ nothing ∷ []
no_steps = refl
