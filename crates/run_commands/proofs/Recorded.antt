-- From a recording into a file to the answer of `record`.
use Rattle.std.proofs.Common.{◌≡◌, ℕ, Bool, false, List, Option, None, Some, Result, Ok, Err, length, inl, inr, sym, ap, subst, ◌∙◌}
use Rattle.std.specs.Prelude.{IfOk, IfErr}
use Rattle.bench_run.specs.env_script.declared.stalls.Stalls.{Stalls}
use Rattle.bench_run.specs.trace_model.declared.row.Row.{Row}
use Rattle.vidi_recorder.specs.vidi_io.Shelf.{Files}
use Rattle.vidi_recorder.specs.vidi_io.Writing.{IsKept}
use Rattle.vidi_recorder.specs.declared.error.Outcome.{Outcome}
use Rattle.vidi_recorder.specs.declared.error.Outcome.TheVariants as outcomes
use Rattle.vidi_recorder.specs.Course.{Course}
use Rattle.vidi_bench.specs.vidi_answer.declared.answer.Answer.{Answer}
use Rattle.vidi_bench.specs.vidi_answer.declared.answer.Ended.{Ended}
use Rattle.vidi_bench.specs.vidi_answer.declared.answer.Ended.TheVariants as ends
use Rattle.vidi_bench.specs.declared.bench.Bench.{Bench}
use Rattle.vidi_bench.specs.vidi_answer.declared.status.Status.{Status}
use Rattle.vidi_bench.specs.vidi_answer.declared.status.Status.TheVariants.{Unstable}
use Rattle.vidi_bench.specs.AnswerText.{text_of}
use Rattle.vidi_bench.specs.Ended.{IsStopped, Owes}
use Rattle.run_commands.specs.Recorded.{FileEnds, IsOutcome}
use Rattle.run_commands.specs.Records.{course_of, IsCutShort, IsPlanned, Records, RecordsRun, StopsRecording}
use Rattle.run_commands.specs.Said.{recorded_line, unstable_line}

pub told-recorded : (w : Course) (files left : Option Files) (trace : List ℕ) (P : Bool → Type 0) (o : Outcome) (cycles : ℕ)
    (status : Status) (text : List ℕ) → cycles ≡ w.cycles → FileEnds w files trace P left o
    → IsOutcome w.bound.channels cycles o status text → RecordsRun w trace files P status text left
told-recorded w files left trace P (outcomes.Whole packets) cycles status text same (rows, leaves, is) said =
    let whole : length rows ≡ w.cycles = sym (ap (λ (rs : List Row). length rs) leaves.0.rows_are) ∙ leaves.0.run.3 in (
      rows,
      None,
      leaves,
      (
        said.0,
        said.1 ∙ ap (λ (n : ℕ). recorded_line n packets) (same ∙ sym whole) ∙ ap (λ (n : ℕ). recorded_line (length rows) n) is,
      ),
    )
told-recorded w files left trace P (outcomes.Unstable channel cycle packets) cycles status text same (rows, leaves, is) said = (
  rows,
  Some channel,
  leaves,
  (said.0 ∙ ap (λ (n : ℕ). Unstable channel n) is, said.1 ∙ ap (λ (n : ℕ). unstable_line w.bound.channels channel n) is),
)

-- the same of what else is known of the starts
module _ (w : Course) (files left : Option Files) (trace : List ℕ) (P Q : Bool → Type 0) (known : (once : Bool) → P once → Q once) where
  pub short-knowing : IsCutShort w files trace P left → IsCutShort w files trace Q left
  short-knowing (inl (none, same)) = inl (known false none, same)
  short-knowing (inr (once, is, rows, bytes, run, front, held, empty)) = inr (once, known once is, rows, bytes, run, front, held, empty)

  pub run-knowing : (status : Status) (text : List ℕ) → RecordsRun w trace files P status text left
      → RecordsRun w trace files Q status text left
  run-knowing status text (rows, stop, (run, held, (once, is, told)), said) =
      (rows, stop, (run, held, (once, known once is, told)), said)

-- what is owed for a recording that was planned
pub recorded-owed : (design map script stalls trace : List ℕ) (files now left : Option Files) (F : List ℕ → Type 0) (b : Bench)
    (plan : Stalls) (V W : Type 0) (P Q : Bool → Type 0) (r : Result Answer Ended) → now ≡ files
    → IsPlanned design map script stalls files b plan → (V → W) → ((once : Bool) → P once → Q once)
    → IfOk r (λ a. RecordsRun (course_of b plan) trace now P a.status (text_of a.text) left)
    → IfErr r (IsStopped (IsCutShort (course_of b plan) now trace P) V (IsKept now P) left)
    → Owes (Records design map script stalls trace files F Q) (StopsRecording design map script stalls trace files Q) W (IsKept files Q)
    left r
recorded-owed design map script stalls trace files now left F b plan V W P Q (Ok a) same planned why kept run stopped =
    let known = run-knowing (course_of b plan) now left trace P Q kept a.status (text_of a.text) run in
    inr (b, plan, planned, subst (λ (fs : Option Files). RecordsRun (course_of b plan) trace fs Q a.status (text_of a.text) left) same known)
recorded-owed design map script stalls trace files now left F b plan V W P Q (Err (ends.Refused a)) same planned why kept run stopped =
    absurd stopped
recorded-owed design map script stalls trace files now left F b plan V W P Q (Err ends.WriteFault) same planned why kept run (failed, cut) =
    let known = short-knowing (course_of b plan) now left trace P Q kept cut in
    (why failed, (b, plan, planned, subst (λ (fs : Option Files). IsCutShort (course_of b plan) fs trace Q left) same known))
recorded-owed design map script stalls trace files now left F b plan V W P Q (Err ends.Memory) same planned why kept run (stays, none) =
    (stays ∙ same, kept false none)

-- at what a script, its resets and its number of cycles are
pub at-these : {S : Type 0} (P : S → List ℕ → ℕ → Type 0) (s t : S) (x y : List ℕ) (n k : ℕ) → s ≡ t → x ≡ y → n ≡ k → P s x n → P t y k
at-these {S} P s t x y n k q o r is =
    subst (λ (m : ℕ). P t y m) r (subst (λ (z : List ℕ). P t z n) o (subst (λ (u : S). P u x n) q is))
