use Rattle.net_code.proofs.MovedValues.{block_moved}
use Rattle.net_code.proofs.move_laws.moved_updates.Goals as goal

pub returns : goal.returns
returns c = block_moved
