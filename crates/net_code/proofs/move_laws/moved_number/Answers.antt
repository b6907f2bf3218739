use Rattle.net_code.proofs.MovedValues.{value_moved}
use Rattle.net_code.proofs.move_laws.moved_number.Goals as goal

pub returns : goal.returns
returns c = value_moved
