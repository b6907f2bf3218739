-- The command `sample`: no failed write among its answers.
use Rattle.std.proofs.Common.{◌≡◌, ℕ, List, Some, length, inl, inr}
use Rattle.sample_gen.specs.trace_model.declared.trace.Trace.{Trace}
use Rattle.sample_gen.specs.trace_model.Recording.{trace_of}
use Rattle.sample_gen.specs.declared.files.Sample.{Sample}
use Rattle.sample_gen.specs.Sample.{sample}
use Rattle.replay_command.specs.replay_run.declared.outcome.ReplayOutcome.{ReplayOutcome}
use Rattle.replay_command.specs.replay_run.declared.outcome.ReplayOutcome.TheVariants as outcomes
use Rattle.sample_command.specs.declared.sampling.Figures.{Figures}
use Rattle.replay_command.specs.vidi_bench.vidi_answer.declared.status.Status.TheVariants.{Done, Diverged, WriteFault}
use Rattle.sample_command.specs.Said.{sample_line}
use Rattle.sample_command.specs.Samples.{figures, sample_cycles, IsSampleSaid, IsSampleVerdict, IsTraced, IsUntraced, Samples, SamplesFiles, SamplesReplay}
use Rattle.replay_command.proofs.vidi_bench_lemmas.Quiet.{Mute, mute-said, mute-step, done-goes}
use Rattle.replay_command.proofs.QuietReplays.{mute-refused_replay, mute-replay_said}
use Rattle.run_commands.proofs.QuietTexts.{mute-planned, mute-recorded}

mute-untraced : (design map script stalls : List ℕ) → Mute (IsUntraced design map script stalls)
mute-untraced design map script stalls x (inl refused) = mute-planned design map script stalls x refused
mute-untraced design map script stalls x (inr (b, plan, rows, channel, is, said)) =
    mute-recorded b.device.map.channels rows (Some channel) x said

mute-sample_verdict : (line : List ℕ) (t u : Trace) → Mute (IsSampleVerdict line t u)
mute-sample_verdict line t u x (inl (none, said)) = mute-said Done line done-goes x said
mute-sample_verdict line t u x (inr (some, said)) = let e : WriteFault ≡ Diverged = said.0 in cc

mute-sample_said : (k : Figures) (t u : Trace) (o : ReplayOutcome) → Mute (IsSampleSaid k t u o)
mute-sample_said k t u (outcomes.Ended cycles) x v = mute-sample_verdict (sample_line k (length t.packets) cycles) t u x v
mute-sample_said k t u (outcomes.Short helds events) x s = mute-replay_said t u sample_cycles (outcomes.Short helds events) x s
mute-sample_said k t u (outcomes.Unstable channel cycle) x s = mute-replay_said t u sample_cycles (outcomes.Unstable channel cycle) x s

mute-samples_replay : (k : Figures) (design map bytes : List ℕ) → Mute (SamplesReplay k design map bytes)
mute-samples_replay k design map bytes x (inl refused) = mute-refused_replay design map bytes x refused
mute-samples_replay k design map bytes x (inr (v, t, is, (rows, outcome, replay, said))) =
    mute-sample_said k t (trace_of v.map.channels rows) outcome x said

mute-samples_files : (n : ℕ) (s : Sample) → Mute (SamplesFiles n s)
mute-samples_files n s = mute-step (IsUntraced s.design s.map s.script s.stalls) (IsTraced s.design s.map s.script s.stalls)
    (SamplesReplay (figures n s) s.design s.map) (mute-untraced s.design s.map s.script s.stalls)
    (mute-samples_replay (figures n s) s.design s.map)

pub mute-samples : (n : ℕ) → Mute (Samples n)
mute-samples n = mute-samples_files n (sample n)
