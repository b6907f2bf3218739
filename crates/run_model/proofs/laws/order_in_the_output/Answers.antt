use Rattle.run_model.proofs.ReplayLaws.{order-in_the_output}
use Rattle.run_model.proofs.laws.order_in_the_output.Goals as goal

pub returns : goal.returns
returns c = order-in_the_output
