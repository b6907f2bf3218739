use Rattle.net_code.proofs.MovedValues.{fixed_moved}
use Rattle.net_code.proofs.move_laws.moved_is_fixed.Goals as goal

pub returns : goal.returns
returns c = fixed_moved
