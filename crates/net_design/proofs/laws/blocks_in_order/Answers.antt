use Rattle.net_design.proofs.UpdateLaws.{two_blocks}
use Rattle.net_design.proofs.laws.blocks_in_order.Goals as goal

pub returns : goal.returns
returns c = two_blocks
