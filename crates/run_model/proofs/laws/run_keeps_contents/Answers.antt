use Rattle.run_model.proofs.RunLaws.{run-keeps_contents}
use Rattle.run_model.proofs.laws.run_keeps_contents.Goals as goal

pub returns : goal.returns
returns c = run-keeps_contents
