use Rattle.run_laws.proofs.StretchLaws.{one-replay_in_stretches}
use Rattle.run_laws.proofs.stretches.one_replay_in_stretches.Goals as goal

pub returns : goal.returns
returns c = one-replay_in_stretches
