-- What `migrate TRACE OUT` owes.
use Rattle.std.specs.Prelude.{ℕ, Bool, List, Option}
use Rattle.vidi_answer.specs.trace_code.trace_model.declared.trace.Trace.{Trace}
use Rattle.vidi_answer.specs.trace_v2.declared.header.TheConstants.{OLD_TRACE_LIMIT}
use Rattle.vidi_answer.specs.trace_v2.Old.{EncodesOld}
use Rattle.vidi_answer.specs.trace_v2.OldDecoding.{IsOldFaultAt}
use Rattle.vidi_answer.specs.vidi_io.Shelf.{Files}
use Rattle.vidi_answer.specs.report_text.declared.reason.Word.TheVariants as words
use Rattle.vidi_answer.specs.report_text.declared.reason.Reason.TheVariants.{BadTrace}
use Rattle.vidi_answer.specs.declared.status.Status.{Status}
use Rattle.vidi_answer.specs.Reading.{IsRead, Reading}
use Rattle.vidi_answer.specs.Steps.{Ending, IsRefusal}
use Rattle.trace_commands.specs.Said.{migrated_line}
use Rattle.trace_commands.specs.Written.{StopsWriting, Writes}

-- the longest file of an old trace, in bytes
abbrev pub old_trace_limit : ℕ
old_trace_limit = OLD_TRACE_LIMIT

-- the bytes are the old encoding of no trace
abbrev pub IsNoOldTrace : List ℕ → Ending
IsNoOldTrace file status text =
    (at : ℕ) × IsOldFaultAt file at × ((t : Trace) → ¬ EncodesOld t file) × IsRefusal words.Trace (BadTrace at) status text

-- the file isn't read, or is no old trace's
abbrev pub IsUnmigrated : List ℕ → Option Files → (List ℕ → Type 0) → Ending
IsUnmigrated trace files ReadFailed = Reading old_trace_limit words.Trace trace files ReadFailed IsNoOldTrace

-- t is the trace of the file
abbrev pub IsOldTraceOf : List ℕ → Option Files → Trace → Type 0
IsOldTraceOf trace files t = (file : List ℕ) × IsRead old_trace_limit trace files file × EncodesOld t file

abbrev pub Migrates : List ℕ → List ℕ → Option Files → (List ℕ → Type 0) → (Bool → Type 0) → Status → List ℕ → Option Files → Type 0
Migrates trace out files ReadFailed = Writes (IsUnmigrated trace files ReadFailed) (IsOldTraceOf trace files) migrated_line out files

abbrev pub StopsMigrating : List ℕ → List ℕ → Option Files → (Bool → Type 0) → Option Files → Type 0
StopsMigrating trace out files = StopsWriting (IsOldTraceOf trace files) out files
