-- From the trace that is given to the answer of a command that writes it.
use Rattle.std.proofs.Common.{◌≡◌, ℕ, Bool, true, false, List, Option, Result, Ok, Err, inl, inr, ap, subst, ◌∙◌}
use Rattle.std.specs.Prelude.{IfOk, IfErr}
use Rattle.vidi_answer.specs.trace_code.trace_model.declared.trace.Trace.{Trace}
use Rattle.vidi_answer.specs.vidi_io.Shelf.{Files, holding}
use Rattle.vidi_answer.specs.vidi_io.Writing.{IsCutOff, IsKept}
use Rattle.vidi_answer.proofs.vidi_io_lemmas.Cut.{cut-knowing}
use Rattle.vidi_answer.specs.declared.answer.Answer.{Answer}
use Rattle.vidi_answer.specs.declared.answer.Ended.{Ended}
use Rattle.vidi_answer.specs.declared.answer.Ended.TheVariants as ends
use Rattle.vidi_answer.specs.declared.status.Status.{Status}
use Rattle.vidi_answer.specs.declared.status.Status.TheVariants.{Done, WriteFault}
use Rattle.vidi_answer.specs.AnswerText.{text_of}
use Rattle.vidi_answer.specs.Ended.{IsStopped, Owes}
use Rattle.vidi_answer.specs.Steps.{Ending, IsSaid}
use Rattle.trace_commands.specs.declared.writing.TraceBytes.{TraceBytes}
use Rattle.trace_commands.specs.Written.{Holds, StopsWriting, Writes}
use Rattle.vidi_answer.proofs.Chain.{Implies}
use Rattle.vidi_answer.proofs.Quiet.{Mute}

-- what is given in one way is given in another
pub holds-as : (Gives Others : Trace → Type 0) (e : TraceBytes) → ((t : Trace) → Gives t → Others t) → Holds Gives e → Holds Others e
holds-as Gives Others e on (t, given, is) = (t, on t given, is)

pub all-holds : {E : Type 0} (Gives Others : Trace → Type 0) (r : Result TraceBytes E) → ((t : Trace) → Gives t → Others t)
    → IfOk r (Holds Gives) → IfOk r (Holds Others)
all-holds Gives Others (Ok e) on is = holds-as Gives Others e on is
all-holds Gives Others (Err e) on is = tt

pub written-owed : (Refuses : Ending) (Gives : Trace → Type 0) (line : ℕ → List ℕ) (out : List ℕ) (files now left : Option Files)
    (e : TraceBytes) (V W : Type 0) (P Q : Bool → Type 0) (r : Result Answer Ended) → Holds Gives e → now ≡ files
    → (V → W) → ((once : Bool) → P once → Q once)
    → IfOk r (λ a. IsSaid Done (line e.packets) a.status (text_of a.text))
    → IfOk r (λ a. left ≡ holding now out e.bytes) → IfOk r (λ a. P true)
    → IfErr r (IsStopped (IsCutOff now out e.bytes P) V (IsKept now P) left)
    → Owes (Writes Refuses Gives line out files Q) (StopsWriting Gives out files Q) W (IsKept files Q) left r
written-owed Refuses Gives line out files now left e V W P Q (Ok a) (t, given, is) same why kept said holds once stopped = inr (
  t,
  given,
  (said.0, said.1 ∙ ap line is.1),
  (
    holds ∙ ap (λ (fs : Option Files). holding fs out e.bytes) same ∙ ap (λ (b : List ℕ). holding files out b) is.0,
    kept true once,
  ),
)
written-owed Refuses Gives line out files now left e V W P Q (Err (ends.Refused a)) given same why kept said holds once stopped =
    absurd stopped
written-owed Refuses Gives line out files now left e V W P Q (Err ends.WriteFault) (t, given, is) same why kept said holds once
    (failed, cut) = (
      why failed,
      (
        t,
        given,
        subst (λ (b : List ℕ). IsCutOff files out b Q left) is.0
            (subst (λ (fs : Option Files). IsCutOff fs out e.bytes Q left) same (cut-knowing now left out e.bytes P Q kept cut)),
      ),
    )
written-owed Refuses Gives line out files now left e V W P Q (Err ends.Memory) given same why kept said holds once (stays, none) =
    (stays ∙ same, kept false none)

-- ---- no failed write among the answers, and the same where no read failed
pub mute-writes : (Refuses : Ending) (Gives : Trace → Type 0) (line : ℕ → List ℕ) (out : List ℕ) (files : Option Files) (P : Bool → Type 0)
    (x : List ℕ) (left : Option Files) → Mute Refuses → Writes Refuses Gives line out files P WriteFault x left → ⊥
mute-writes Refuses Gives line out files P x left mute (inl (refused, same)) = mute x refused
mute-writes Refuses Gives line out files P x left mute (inr (t, given, s, same)) = let e : WriteFault ≡ Done = s.0 in cc

pub writes-as : (Refuses Others : Ending) (Gives : Trace → Type 0) (line : ℕ → List ℕ) (out : List ℕ) (files : Option Files)
    (P : Bool → Type 0) (a : Status) (x : List ℕ) (left : Option Files) → Implies Refuses Others
    → Writes Refuses Gives line out files P a x left → Writes Others Gives line out files P a x left
writes-as Refuses Others Gives line out files P a x left on (inl (refused, same)) = inl (on a x refused, same)
writes-as Refuses Others Gives line out files P a x left on (inr written) = inr written
