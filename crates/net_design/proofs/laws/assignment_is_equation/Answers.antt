use Rattle.net_design.proofs.EquationLaws.{set_equation}
use Rattle.net_design.proofs.laws.assignment_is_equation.Goals as goal

pub returns : goal.returns
returns c = set_equation
