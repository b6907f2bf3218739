-- From a recording in memory, and a replay of its trace, to the answer of `sample`.
use Rattle.std.proofs.Common.{◌≡◌, ◌≤◌, ℕ, Bool, List, Option, None, Some, Result, Ok, Err, cond, inr, refl, sym, ap, subst, ◌∙◌}
use Rattle.std.specs.Prelude.{IfOk, IsSome, IsSomeAnd, codes}
use Rattle.std.specs.Cmp.Lexicographic.{nat_list_cmp_total}
use Rattle.std.specs.FinMap.{get, insert, get-insert}
use Rattle.std.proofs.lemmas.Map.Text.{is_eq-slice_cmp}
use Rattle.sample_gen.proofs.vidi_bits_lemmas.Lists.{bytes_eq-self, some_same}
use Rattle.sample_gen.specs.trace_model.Recording.{trace_of}
use Rattle.replay_command.specs.trace_code.Encoding.{encode}
use Rattle.sample_gen.specs.env_script.declared.stalls.Stalls.{Stalls}
use Rattle.sample_gen.specs.env_script.Reasons.{read_lines}
use Rattle.sample_gen.specs.env_script.Stalls.{ReadsStalls}
use Rattle.replay_command.specs.vidi_io.declared.mem_shelf.MemShelf.{MemShelf}
use Rattle.replay_command.specs.vidi_io.Entries.{files_of}
use Rattle.replay_command.specs.vidi_io.MemShelf.{entries}
use Rattle.replay_command.specs.vidi_io.Shelf.{Files, holding}
use Rattle.run_commands.specs.vidi_recorder.declared.error.Outcome.TheVariants as outcomes
use Rattle.run_commands.specs.vidi_recorder.Course.{Course}
use Rattle.replay_command.specs.vidi_bench.vidi_answer.declared.answer.Ended.{Ended}
use Rattle.replay_command.specs.vidi_bench.declared.bench.Bench.{Bench}
use Rattle.replay_command.specs.vidi_bench.Benches.{IsBench}
use Rattle.run_commands.specs.Recorded.{FileEnds}
use Rattle.run_commands.specs.Records.{course_of, least_for}
use Rattle.sample_command.specs.Sampled.{trace_on, HasTrace, IsTraceOf, IsUnstable}
use Rattle.sample_command.specs.Samples.{IsTraced, IsUntraced}
use Rattle.replay_command.proofs.vidi_bench_lemmas.Chain.{Implies}

-- ---- the file on the shelf
get-held : (m : Files) (name bytes : List ℕ) → get (insert m name bytes) name ≡ Some bytes
get-held m name bytes = get-insert nat_list_cmp_total m name bytes name
    ∙ ap (λ t. cond t (Some bytes) (get m name)) (is_eq-slice_cmp name name ∙ bytes_eq-self name)

has-held : (P : List ℕ → Type 0) (shelf : MemShelf) (m : Files) (bytes : List ℕ)
    → Some (files_of (entries shelf)) ≡ holding (Some m) (codes "trace") bytes → P bytes → HasTrace P shelf
has-held P shelf m bytes same p =
    let are : files_of (entries shelf) ≡ insert m (codes "trace") bytes =
    some_same (files_of (entries shelf)) (insert m (codes "trace") bytes) same in
    let there : trace_on shelf ≡ Some bytes =
    ap (λ (fs : Files). get fs (codes "trace")) are ∙ get-held m (codes "trace") bytes in
    subst (λ (o : Option (List ℕ)). IsSomeAnd o P) (sym there) p

some-as : {A : Type 0} (P Q : A → Type 0) (o : Option A) → ((x : A) → P x → Q x) → IsSomeAnd o P → IsSomeAnd o Q
some-as P Q (Some x) on is = on x is
some-as P Q None on is = absurd is

pub some-there : {A : Type 0} (P : A → Type 0) (o : Option A) → IsSomeAnd o P → IsSome o
some-there P (Some x) is = refl
some-there P None is = absurd is

pub some-at : {A : Type 0} (P : A → Type 0) (o : Option A) (x : A) → o ≡ Some x → IsSomeAnd o P → P x
some-at P o x same is = subst (λ (k : Option _). IsSomeAnd k P) same is

-- ---- the recording
pub whole-traced : (w : Course) (m : Files) (shelf : MemShelf) (P : Bool → Type 0) (packets : ℕ)
    → FileEnds w (Some m) (codes "trace") P (Some (files_of (entries shelf))) (outcomes.Whole packets) → HasTrace (IsTraceOf w) shelf
whole-traced w m shelf P packets (rows, (run, held, started), is) =
    has-held (IsTraceOf w) shelf m (encode (trace_of w.bound.channels rows)) held (rows, run, refl)

-- ---- of four texts
module _ (design map script stalls : List ℕ) (b : Bench) (plan : Stalls) (bench : IsBench design map script b)
    (planned : ReadsStalls (read_lines stalls) (Ok plan)) (holds : least_for b.device.map.channels b.script ≤ plan.capacity) where
  traced-texts : (bytes : List ℕ) → IsTraceOf (course_of b plan) bytes → IsTraced design map script stalls bytes
  traced-texts bytes (rows, run, same) =
      (b, plan, rows, record { bench = bench; planned = planned; holds = holds; run = run }, same)

  pub unstable-texts : Implies (IsUnstable (course_of b plan)) (IsUntraced design map script stalls)
  unstable-texts a x (rows, channel, run, said) =
      inr (b, plan, rows, channel, record { bench = bench; planned = planned; holds = holds; run = run }, said)

  pub traced-all : (r : Result MemShelf Ended) → IfOk r (HasTrace (IsTraceOf (course_of b plan)))
      → IfOk r (HasTrace (IsTraced design map script stalls))
  traced-all (Ok shelf) is =
      some-as (IsTraceOf (course_of b plan)) (IsTraced design map script stalls) (trace_on shelf) traced-texts is
  traced-all (Err e) is = tt
