use Rattle.run_model.proofs.ReplayLaws.{replay-keeps_contents}
use Rattle.run_model.proofs.laws.replay_keeps_contents.Goals as goal

pub returns : goal.returns
returns c = replay-keeps_contents
