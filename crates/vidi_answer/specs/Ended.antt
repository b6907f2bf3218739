-- What ends a command before its answer, and what a command gives.
use Rattle.std.specs.Prelude.{ℕ, List, Option, Result, Ok, Err}
use Rattle.report_text.specs.vidi_io.Shelf.{Files}
use Rattle.vidi_answer.specs.declared.answer.Answer.{Answer}
use Rattle.vidi_answer.specs.declared.answer.Ended.{Ended}
use Rattle.vidi_answer.specs.declared.answer.Ended.TheVariants.{Refused, WriteFault, Memory}
use Rattle.vidi_answer.specs.declared.status.Status.{Status}
use Rattle.vidi_answer.specs.AnswerText.{text_of}
use Rattle.vidi_answer.specs.Steps.{Ending}

-- before a file is written: one of these answers is given, or memory was wanting
abbrev pub EndsWith : Ending → Ended → Type 0
EndsWith Ends (Refused answer) = Ends answer.status (text_of answer.text)
EndsWith Ends WriteFault = ⊥
EndsWith Ends Memory = Unit {0}

-- where a file is written: a write failed, which leaves it cut off, or memory was wanting, which leaves all as it was
abbrev pub IsStopped : (Option Files → Type 0) → Type 0 → (Option Files → Type 0) → Option Files → Ended → Type 0
IsStopped CutOff WriteFailed Kept left (Refused answer) = ⊥
IsStopped CutOff WriteFailed Kept left WriteFault = WriteFailed × CutOff left
IsStopped CutOff WriteFailed Kept left Memory = Kept left

-- what a command gives that writes no file
abbrev pub IsAnswered : Ending → Result Answer Ended → Type 0
IsAnswered Ends (Ok answer) = Ends answer.status (text_of answer.text)
IsAnswered Ends (Err ended) = EndsWith Ends ended

-- What a command gives: an answer that is earned with these files left, or why it says nothing of its own. Where memory was wanting all is
-- as it was.
abbrev pub Owes : (Status → List ℕ → Option Files → Type 0) → (Option Files → Type 0) → Type 0 → (Option Files → Type 0) → Option Files
    → Result Answer Ended → Type 0
Owes Earned CutOff WriteFailed Kept left (Ok answer) = Earned answer.status (text_of answer.text) left
Owes Earned CutOff WriteFailed Kept left (Err (Refused answer)) = Earned answer.status (text_of answer.text) left
Owes Earned CutOff WriteFailed Kept left (Err WriteFault) = WriteFailed × CutOff left
Owes Earned CutOff WriteFailed Kept left (Err Memory) = Kept left
