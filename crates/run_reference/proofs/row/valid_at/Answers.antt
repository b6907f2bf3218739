use Rattle.std.proofs.Common.{sym}
use Rattle.run_reference.proofs.BlockLemmas.{plug-is}
use Rattle.run_reference.proofs.row.valid_at.Goals as goal

pub valid_on-requires : goal.valid_on-requires
valid_on-requires g c = plug-is (g.B.Block.design c.args.block.now) c.args.map.now c.requires c.args.c c.in-Some.channel.now
    c.in-Some-get.plug.now
    (sym c.in-Some.ensures) (sym c.in-Some-get.ensures)
