use Rattle.std.proofs.Common.{sym}
use Rattle.run_reference.proofs.BlockLemmas.{plug-is}
use Rattle.run_reference.proofs.row.ready_at.Goals as goal

pub ready_on-requires : goal.ready_on-requires
ready_on-requires g c = plug-is (g.B.Block.design c.args.block.now) c.args.map.now c.requires c.args.c c.in-Some.channel.now
    c.in-Some-get.plug.now
    (sym c.in-Some.ensures) (sym c.in-Some-get.ensures)
