-- From the files of a command to what their texts say.
use Rattle.std.proofs.Common.{◌≡◌, ℕ, List, Option, Result, Ok, Err, ◌≤◌, inl, inr}
use Rattle.std.specs.Prelude.{IfOk}
use Rattle.bench_run.specs.env_script.Reasons.{read_lines}
use Rattle.bench_run.specs.env_script.Stalls.{ReadsStalls}
use Rattle.vidi_recorder.specs.vidi_io.Shelf.{Files}
use Rattle.vidi_bench.specs.vidi_answer.declared.answer.Ended.{Ended}
use Rattle.run_commands.specs.declared.recording.Planned.{Planned}
use Rattle.vidi_bench.specs.Benches.{IsBench, ReadTexts}
use Rattle.vidi_bench.specs.Design.{text_limit}
use Rattle.vidi_bench.specs.Reading.{IsRead}
use Rattle.run_commands.specs.Records.{least_for, IsPlanned}
use Rattle.vidi_bench.specs.Steps.{Ending, Never}
use Rattle.vidi_bench.proofs.Chain.{Implies}

-- files that are not all read end the command, whatever comes of their texts
pub never-read : (design map script : List ℕ) (files : Option Files) (F : List ℕ → Type 0) (Next : List ℕ → List ℕ → List ℕ → Ending)
    → Implies (ReadTexts design map script files F (λ _ _ _. Never)) (ReadTexts design map script files F Next)
never-read design map script files F Next a x (inl unread) = inl unread
never-read design map script files F Next a x (inr (d, read, inl unread)) = inr (d, read, inl unread)
never-read design map script files F Next a x (inr (d, read, inr (m, read', inl unread))) = inr (d, read, inr (m, read', inl unread))
never-read design map script files F Next a x (inr (d, read, inr (m, read', inr (s, read'', never)))) = absurd never

-- what the texts of four files say
pub plan-said : (design map script stalls : List ℕ) (files : Option Files) (d m s t : List ℕ) (r : Result Planned Ended)
    → IsRead text_limit design files d → IsRead text_limit map files m → IsRead text_limit script files s
    → IsRead text_limit stalls files t → IfOk r (λ p. IsBench d m s p.bench)
    → IfOk r (λ p. ReadsStalls (read_lines t) (Ok p.plan))
    → IfOk r (λ p. least_for p.bench.device.map.channels p.bench.script ≤ p.plan.capacity)
    → IfOk r (λ p. IsPlanned design map script stalls files p.bench p.plan)
plan-said design map script stalls files d m s t (Ok p) first second third fourth bench planned holds = record {
  design_text = d;
  map_text = m;
  script_text = s;
  stalls_text = t;
  design_read = first;
  map_read = second;
  script_read = third;
  stalls_read = fourth;
  bench = bench;
  planned = planned;
  holds = holds;
}
plan-said design map script stalls files d m s t (Err e) first second third fourth bench planned holds = tt
