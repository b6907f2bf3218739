-- What is known of the commands that write a trace.
use Rattle.std.proofs.Common.{ℕ, Bool, true, false, List, Option, inl, inr}
use Rattle.wrap_command.specs.trace_model.declared.trace.Trace.{Trace}
use Rattle.wrap_command.specs.vidi_io.Shelf.{Files}
use Rattle.wrap_command.specs.vidi_bench.vidi_answer.declared.status.Status.{Status}
use Rattle.wrap_command.specs.vidi_bench.Steps.{Ending}
use Rattle.trace_commands.specs.Written.{StopsWriting, Writes}
use Rattle.vidi_commands.specs.Answer.{StartsNone}
use Rattle.trace_commands.proofs.WrittenTraces.{mute-writes, writes-as}
use Rattle.wrap_command.proofs.vidi_bench_lemmas.Chain.{Implies}
use Rattle.wrap_command.proofs.vidi_bench_lemmas.Quiet.{Mute}
use Rattle.vidi_commands.proofs.Facts.{Facts, Once, cut-once, done-starts}

writes-once : (Refuses : Ending) (Gives : Trace → Type 0) (line : ℕ → List ℕ) (out : List ℕ) (files : Option Files)
    (P : Bool → Type 0) (status : Status) (text : List ℕ) (left : Option Files)
    → Writes Refuses Gives line out files P status text left → Once P
writes-once Refuses Gives line out files P status text left (inl (refused, (same, none))) = (false, none)
writes-once Refuses Gives line out files P status text left (inr (t, given, said, (held, once))) = (true, once)

writes-none : (Refuses : Ending) (Gives : Trace → Type 0) (line : ℕ → List ℕ) (out : List ℕ) (files : Option Files)
    (P : Bool → Type 0) (status : Status) (text : List ℕ) (left : Option Files)
    → Writes Refuses Gives line out files P status text left → StartsNone status → P false
writes-none Refuses Gives line out files P status text left (inl (refused, (same, none))) is = none
writes-none Refuses Gives line out files P status text left (inr (t, given, said, held)) is = absurd (done-starts status said.0 is)

stopped-once : (Gives : Trace → Type 0) (out : List ℕ) (files : Option Files) (P : Bool → Type 0) (left : Option Files)
    → StopsWriting Gives out files P left → Once P
stopped-once Gives out files P left (t, given, cut) = cut-once files out _ P left cut

-- of what ends the command before, for each shelf
pub written-facts : (Refuses : Option Files → (List ℕ → Type 0) → Ending) (Gives : Option Files → Trace → Type 0) (line : ℕ → List ℕ)
    (out : List ℕ) → ((files : Option Files) (F : List ℕ → Type 0) → Mute (Refuses files F))
    → ((files : Option Files) (F : List ℕ → Type 0) → ((name : List ℕ) → ¬ F name) → Implies (Refuses files F) (Refuses files (λ _. ⊥)))
    → Facts (λ files F. Writes (Refuses files F) (Gives files) line out files) (λ files. StopsWriting (Gives files) out files)
written-facts Refuses Gives line out mute quiet = record {
  mute = λ files F P text left. mute-writes (Refuses files F) (Gives files) line out files P text left (mute files F);
  quiet = λ files F P status text left still. writes-as (Refuses files F) (Refuses files (λ _. ⊥)) (Gives files) line out files P status text
      left (quiet files F still);
  once = λ files F. writes-once (Refuses files F) (Gives files) line out files;
  none = λ files F. writes-none (Refuses files F) (Gives files) line out files;
  stopped = λ files. stopped-once (Gives files) out files;
}
