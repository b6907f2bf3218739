use Rattle.run_model.proofs.Stops.{one-run}
use Rattle.run_model.proofs.laws.one_run.Goals as goal

pub returns : goal.returns
returns c = one-run
