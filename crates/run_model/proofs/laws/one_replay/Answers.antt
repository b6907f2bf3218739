use Rattle.run_model.proofs.ReplayLaws.{one-replay}
use Rattle.run_model.proofs.laws.one_replay.Goals as goal

pub returns : goal.returns
returns c = one-replay
