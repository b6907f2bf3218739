use Rattle.flat_drivers.proofs.Added.{one_block_result}
use Rattle.flat_drivers.proofs.item.push_block.Goals as goal

pub returns : goal.returns
returns c = one_block_result c.push.result c.args.code c.args.out.now c.push.new.self c.push.ensures.ok
