use Rattle.run_laws.proofs.Ending.{one-ending_in_stretches}
use Rattle.run_laws.proofs.stretches.one_ending_in_stretches.Goals as goal

pub returns : goal.returns
returns c = one-ending_in_stretches
