use Rattle.replay_run.proofs.Outcomes.{one-outcome}
use Rattle.replay_run.proofs.laws.one_outcome.Goals as goal

pub returns : goal.returns
returns c = one-outcome
