use Rattle.net_design.proofs.TargetLaws.{target_equation}
use Rattle.net_design.proofs.laws.target_is_equation.Goals as goal

pub returns : goal.returns
returns c = target_equation
