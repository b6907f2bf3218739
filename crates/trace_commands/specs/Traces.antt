-- What the commands on traces owe: each step of them in its order.
use Rattle.std.specs.Prelude.{◌≡◌, ℕ, ◌⊎◌, Bool, true, false, List, Option, Ok}
use Rattle.vidi_answer.specs.trace_code.trace_model.declared.trace.Trace.{Trace}
use Rattle.vidi_answer.specs.trace_code.Decoding.{HasNoHeader}
use Rattle.vidi_answer.specs.trace_code.Salvage.{Salvages}
use Rattle.vidi_answer.specs.trace_v2.Old.{begins_old}
use Rattle.vidi_answer.specs.trace_v2.OldDecoding.{HasNoOldHeader, SalvagesOld}
use Rattle.vidi_answer.specs.vidi_io.Shelf.{Files}
use Rattle.vidi_answer.specs.report_text.declared.reason.Word.TheVariants as words
use Rattle.vidi_answer.specs.report_text.declared.reason.Reason.TheVariants.{BadTrace}
use Rattle.vidi_answer.specs.declared.status.Status.{Status}
use Rattle.vidi_answer.specs.declared.status.Status.TheVariants.{Done}
use Rattle.trace_commands.specs.Said.{dump_text, no_divergence_line, salvaged_line}
pub use Rattle.vidi_answer.specs.Traces.{trace_limit, IsNoTrace, Decoding, HasOtherChannels, IsVerdict}
use Rattle.vidi_answer.specs.Reading.{IsRead, Reading}
use Rattle.vidi_answer.specs.Steps.{Ending, IsSaid, IsRefusal}
use Rattle.trace_commands.specs.Written.{StopsWriting, Writes}

-- ---- `dump TRACE`
abbrev pub Dumps : List ℕ → Option Files → (List ℕ → Type 0) → Ending
Dumps trace files ReadFailed = Reading trace_limit words.Trace trace files ReadFailed
    (λ file. Decoding words.Trace file (λ t. IsSaid Done (dump_text t)))

abbrev pub Compared : Trace → Trace → Ending
Compared t u status text = HasOtherChannels words.Other t.channels u.channels status text
    ⊎ ((t.channels ≡ u.channels) × IsVerdict no_divergence_line t u status text)

-- the bytes of two files
abbrev pub ComparedFiles : List ℕ → List ℕ → Ending
ComparedFiles first second = Decoding words.Trace first (λ t. Decoding words.Other second (Compared t))

abbrev pub Compares : List ℕ → List ℕ → Option Files → (List ℕ → Type 0) → Ending
Compares trace other files ReadFailed =
    Reading trace_limit words.Trace trace files ReadFailed (λ first.
    Reading trace_limit words.Other other files ReadFailed (ComparedFiles first))

-- ---- `salvage TRACE OUT`
-- no lawful header of version 1 begins the bytes
abbrev pub LacksOldHeader : List ℕ → Ending
LacksOldHeader file status text = HasNoOldHeader file × IsRefusal words.Trace (BadTrace 0) status text

-- none of version 2
abbrev pub LacksHeader : List ℕ → Ending
LacksHeader file status text = HasNoHeader file × IsRefusal words.Trace (BadTrace 0) status text

-- none of the version as which they begin
abbrev pub IsHeaderless : List ℕ → Ending
IsHeaderless file status text = ((begins_old file ≡ true) × LacksOldHeader file status text)
    ⊎ ((begins_old file ≡ false) × LacksHeader file status text)

-- the file isn't read, or no lawful header begins it
abbrev pub IsUnsaved : List ℕ → Option Files → (List ℕ → Type 0) → Ending
IsUnsaved trace files ReadFailed = Reading trace_limit words.Trace trace files ReadFailed IsHeaderless

-- t is what is whole of the bytes, by the version as which they begin
abbrev pub IsWholeIn : List ℕ → Trace → Type 0
IsWholeIn file t = ((begins_old file ≡ true) × SalvagesOld file (Ok t)) ⊎ ((begins_old file ≡ false) × Salvages file (Ok t))

-- and of the file
abbrev pub IsWhole : List ℕ → Option Files → Trace → Type 0
IsWhole trace files t = (file : List ℕ) × IsRead trace_limit trace files file × IsWholeIn file t

abbrev pub Saves : List ℕ → List ℕ → Option Files → (List ℕ → Type 0) → (Bool → Type 0) → Status → List ℕ → Option Files → Type 0
Saves trace out files ReadFailed = Writes (IsUnsaved trace files ReadFailed) (IsWhole trace files) salvaged_line out files

abbrev pub StopsSaving : List ℕ → List ℕ → Option Files → (Bool → Type 0) → Option Files → Type 0
StopsSaving trace out files = StopsWriting (IsWhole trace files) out files
