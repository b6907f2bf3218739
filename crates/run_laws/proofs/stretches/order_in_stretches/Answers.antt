use Rattle.run_laws.proofs.StretchLaws.{order-in_stretches}
use Rattle.run_laws.proofs.stretches.order_in_stretches.Goals as goal

pub returns : goal.returns
returns c = order-in_stretches
