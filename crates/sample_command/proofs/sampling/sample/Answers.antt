use Rattle.std.proofs.Common.{sym, subst}
use Rattle.sample_gen.specs.declared.files.Sample.{Sample}
use Rattle.replay_command.specs.vidi_bench.Ended.{IsAnswered}
use Rattle.sample_command.specs.Sampled.{AreShort}
use Rattle.sample_command.specs.Samples.{SamplesFiles}
use Rattle.sample_command.proofs.SampleTexts.{texts_short}
use Rattle.sample_command.proofs.sampling.sample.Goals as goal

pub sampled-requires : goal.sampled-requires
sampled-requires c = subst (λ (x : Sample). AreShort x) (sym c.in_ok-files.ensures) (texts_short c.args.number c.requires)

pub returns : goal.returns
returns c = subst (λ (x : Sample). IsAnswered (SamplesFiles c.args.number x) c.sampled.result) c.in_ok-files.ensures c.sampled.ensures
