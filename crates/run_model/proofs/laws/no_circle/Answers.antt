use Rattle.run_model.proofs.Circle.{no-circle}
use Rattle.run_model.proofs.laws.no_circle.Goals as goal

pub returns : goal.returns
returns c = no-circle
