use Rattle.run_reference.proofs.BlockLemmas.{valid-pin}
use Rattle.run_reference.proofs.row.valid_on.Goals as goal

pub pin-requires : goal.pin-requires
pin-requires g c = valid-pin (g.B.Block.design c.args.block.now) c.args.channel.now c.args.plug.now c.requires c.in-Outward.is
