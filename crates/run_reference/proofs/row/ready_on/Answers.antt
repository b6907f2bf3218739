use Rattle.run_reference.proofs.BlockLemmas.{ready-pin}
use Rattle.run_reference.proofs.row.ready_on.Goals as goal

pub pin-requires : goal.pin-requires
pin-requires g c = ready-pin (g.B.Block.design c.args.block.now) c.args.channel.now c.args.plug.now c.requires c.in-Inward.is
