use Rattle.run_laws.proofs.StretchLaws.{replay-stretches_keep_contents}
use Rattle.run_laws.proofs.stretches.replay_stretches_keep_contents.Goals as goal

pub returns : goal.returns
returns c = replay-stretches_keep_contents
