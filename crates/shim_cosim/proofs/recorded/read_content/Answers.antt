use Rattle.std.proofs.Common.{refl, arith}
use Rattle.net_design.specs.Pins.{outputs}
use Rattle.shim_cosim.proofs.Entering.{read-more}
use Rattle.shim_cosim.proofs.recorded.read_content.Goals as goal

pub loop-i-preserved : goal.loop-i-preserved
loop-i-preserved g c =
    let room = c.requires.room in
    let l = c.loop-i-test.true in
    read-more c.args.contents.now c.loop-i.contents _ (outputs (g.B.Block.design c.args.block.now) (g.B.Block.shown c.args.block.now))
    c.args.at c.args.port c.loop-i.i c.pin.result (omega (arith, room, l)) c.pin.ensures c.loop-i.invariant refl
