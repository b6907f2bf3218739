use Rattle.run_laws.proofs.StretchLaws.{run-stretches_keep_contents}
use Rattle.run_laws.proofs.stretches.run_stretches_keep_contents.Goals as goal

pub returns : goal.returns
returns c = run-stretches_keep_contents
