use Rattle.run_laws.proofs.StretchLaws.{one-run_in_stretches}
use Rattle.run_laws.proofs.stretches.one_run_in_stretches.Goals as goal

pub returns : goal.returns
returns c = one-run_in_stretches
