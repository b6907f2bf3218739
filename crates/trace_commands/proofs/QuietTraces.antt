-- The commands on traces: no failed write among their answers, and the same where no read failed.
use Rattle.std.proofs.Common.{ℕ, List, Option, inl, inr}
use Rattle.vidi_answer.specs.trace_code.trace_model.declared.trace.Trace.{Trace}
use Rattle.vidi_answer.specs.vidi_io.Shelf.{Files}
use Rattle.vidi_answer.specs.report_text.declared.reason.Word.TheVariants as words
use Rattle.vidi_answer.specs.report_text.declared.reason.Reason.TheVariants.{BadTrace, OtherChannels}
use Rattle.vidi_answer.specs.declared.status.Status.TheVariants.{Done}
use Rattle.vidi_answer.specs.Reading.{Reading}
use Rattle.trace_commands.specs.Said.{dump_text, no_divergence_line}
use Rattle.vidi_answer.specs.Steps.{IsSaid}
use Rattle.trace_commands.specs.Migrating.{old_trace_limit, IsNoOldTrace, IsUnmigrated}
use Rattle.trace_commands.specs.Traces.{trace_limit, Decoding, Dumps, Compared, ComparedFiles, Compares, IsHeaderless, IsUnsaved}
use Rattle.vidi_answer.proofs.Chain.{Implies}
use Rattle.vidi_answer.proofs.QuietDecoding.{mute-decoding, mute-verdict}
use Rattle.vidi_answer.proofs.Quiet.{Mute, mute-reading, mute-refusal, mute-said, done-goes, quiet-reading}

-- ---- no failed write
pub mute-dumps : (trace : List ℕ) (files : Option Files) (F : List ℕ → Type 0) → Mute (Dumps trace files F)
mute-dumps trace files F = mute-reading trace_limit words.Trace trace files F
    (λ file. Decoding words.Trace file (λ t. IsSaid Done (dump_text t)))
    (λ file. mute-decoding words.Trace file (λ t. IsSaid Done (dump_text t)) (λ t. mute-said Done (dump_text t) done-goes))

mute-compared : (t u : Trace) → Mute (Compared t u)
mute-compared t u x (inl (at, same, other, s)) = mute-refusal words.Other (OtherChannels at) x s
mute-compared t u x (inr (equal, v)) = mute-verdict no_divergence_line t u x v

pub mute-compares : (trace other : List ℕ) (files : Option Files) (F : List ℕ → Type 0) → Mute (Compares trace other files F)
mute-compares trace other files F = mute-reading trace_limit words.Trace trace files F
    (λ first. Reading trace_limit words.Other other files F (ComparedFiles first))
    (λ first. mute-reading trace_limit words.Other other files F (ComparedFiles first)
    (λ second. mute-decoding words.Trace first (λ t. Decoding words.Other second (Compared t))
    (λ t. mute-decoding words.Other second (Compared t) (mute-compared t))))

mute-headerless : (file : List ℕ) → Mute (IsHeaderless file)
mute-headerless file x (inl (old, (none, s))) = mute-refusal words.Trace (BadTrace 0) x s
mute-headerless file x (inr (new, (none, s))) = mute-refusal words.Trace (BadTrace 0) x s

pub mute-unsaved : (trace : List ℕ) (files : Option Files) (F : List ℕ → Type 0) → Mute (IsUnsaved trace files F)
mute-unsaved trace files F = mute-reading trace_limit words.Trace trace files F IsHeaderless mute-headerless

mute-no_old_trace : (file : List ℕ) → Mute (IsNoOldTrace file)
mute-no_old_trace file x (at, fault, none, s) = mute-refusal words.Trace (BadTrace at) x s

pub mute-unmigrated : (trace : List ℕ) (files : Option Files) (F : List ℕ → Type 0) → Mute (IsUnmigrated trace files F)
mute-unmigrated trace files F = mute-reading old_trace_limit words.Trace trace files F IsNoOldTrace mute-no_old_trace

-- ---- where no read failed
pub quiet-dumps : (trace : List ℕ) (files : Option Files) (F : List ℕ → Type 0) → ((name : List ℕ) → ¬ F name)
    → Implies (Dumps trace files F) (Dumps trace files (λ _. ⊥))
quiet-dumps trace files F quiet = quiet-reading trace_limit words.Trace trace files F _ _ (quiet trace) (λ file a x rest. rest)

pub quiet-compares : (trace other : List ℕ) (files : Option Files) (F : List ℕ → Type 0) → ((name : List ℕ) → ¬ F name)
    → Implies (Compares trace other files F) (Compares trace other files (λ _. ⊥))
quiet-compares trace other files F quiet = quiet-reading trace_limit words.Trace trace files F _ _ (quiet trace)
    (λ first. quiet-reading trace_limit words.Other other files F (ComparedFiles first) (ComparedFiles first) (quiet other)
    (λ second a x rest. rest))

pub quiet-unsaved : (trace : List ℕ) (files : Option Files) (F : List ℕ → Type 0) → ((name : List ℕ) → ¬ F name)
    → Implies (IsUnsaved trace files F) (IsUnsaved trace files (λ _. ⊥))
quiet-unsaved trace files F quiet = quiet-reading trace_limit words.Trace trace files F IsHeaderless IsHeaderless (quiet trace)
    (λ file a x rest. rest)

pub quiet-unmigrated : (trace : List ℕ) (files : Option Files) (F : List ℕ → Type 0) → ((name : List ℕ) → ¬ F name)
    → Implies (IsUnmigrated trace files F) (IsUnmigrated trace files (λ _. ⊥))
quiet-unmigrated trace files F quiet = quiet-reading old_trace_limit words.Trace trace files F IsNoOldTrace IsNoOldTrace (quiet trace)
    (λ file a x rest. rest)
