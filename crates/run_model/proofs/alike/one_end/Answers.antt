use Rattle.run_model.proofs.Ends.{one-end}
use Rattle.run_model.proofs.alike.one_end.Goals as goal

pub returns : goal.returns
returns c = one-end
