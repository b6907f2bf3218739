-- How a command goes on: each step ends it with an answer, or gives something to go on with.
use Rattle.std.specs.Prelude.{◌≡◌, ℕ, ◌⊎◌, List, Option, Some}
use Rattle.report_text.specs.declared.reason.Word.{Word}
use Rattle.report_text.specs.declared.reason.Reason.{Reason}
use Rattle.vidi_answer.specs.declared.status.Status.{Status}
use Rattle.vidi_answer.specs.declared.status.Status.TheVariants.{Refused}
use Rattle.report_text.specs.Reason.{reason_line}

-- a status with its text, as an answer is told
abbrev pub Ending : Type 1
Ending = Status → List ℕ → Type 0

abbrev pub IsSaid : Status → List ℕ → Status → List ℕ → Type 0
IsSaid s x status text = (status ≡ s) × (text ≡ x)

-- the file of this word is refused for this reason
abbrev pub IsRefusal : Word → Reason → Status → List ℕ → Type 0
IsRefusal word reason = IsSaid (Refused word reason) (reason_line word reason)

-- the file of this word is refused for the reason that was found
abbrev pub IsRefusalFor : Word → Option Reason → Ending
IsRefusalFor word found status text = (reason : Reason) × (found ≡ Some reason) × IsRefusal word reason status text

abbrev pub Step : {X : Type 0} → Ending → (X → Type 0) → (X → Ending) → Ending
Step {X} Ends Gives Next status text = Ends status text ⊎ ((x : X) × Gives x × Next x status text)

-- what never ends a command
abbrev pub Never : Ending
Never status text = ⊥
