use Rattle.run_reference.proofs.BlockLemmas.{pin-in}
use Rattle.run_reference.proofs.row.push_outputs.Goals as goal

pub pin-requires : goal.pin-requires
pin-requires g c = pin-in (g.B.Block.design c.args.block.now) c.args.widths.now c.args.pins.now c.requires c.loop-pin.pin-index
    c.pin-item.result
    c.loop-pin-test.true c.pin-item.is
