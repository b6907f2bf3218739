use Rattle.net_design.specs.Pins.{outputs}
use Rattle.chan_monitor.proofs.Filling.{pin-read}
use Rattle.std.proofs.Common.{refl}
use Rattle.chan_monitor.proofs.rows.read_pins.Goals as goal

pub loop-i-preserved : goal.loop-i-preserved
loop-i-preserved g c =
    pin-read c.args.contents.now c.loop-i.contents _ (outputs (g.B.Block.design c.args.block.now) (g.B.Block.shown c.args.block.now))
    c.args.pins.now c.args.at c.loop-i.i c.pin.result c.index-pins-i.result c.loop-i-test.true c.index-pins-i.is c.requires.room
    c.pin.ensures c.loop-i.invariant refl
