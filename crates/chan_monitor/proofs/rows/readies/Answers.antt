use Rattle.std.proofs.Common.{◌<◌, ◌^◌, subst, sym}
use Rattle.net_design.specs.Pins.{outputs}
use Rattle.run_model.specs.Building.{ready_on}
use Rattle.run_model.proofs.Contents.{mask-below}
use Rattle.chan_monitor.proofs.Filling.{mask-next}
use Rattle.chan_monitor.proofs.rows.readies.Goals as goal

pub with_bit-mask-requires-clause-below : goal.with_bit-mask-requires-clause-below
with_bit-mask-requires-clause-below g c =
    subst (λ m. m < 2 ^ c.loop-c.c) (sym c.loop-c.invariant) (mask-below _ c.loop-c.c)

pub loop-c-preserved : goal.loop-c-preserved
loop-c-preserved g c =
    mask-next (ready_on c.args.offers.now (outputs (g.B.Block.design c.args.block.now) (g.B.Block.shown c.args.block.now)))
    c.args.channels.now c.args.plugs.now c.loop-c.c c.index-channels-c.result c.index-plugs-c.result c.ready_on-up.result c.loop-c.mask
    c.with_bit-mask.result c.loop-c-test.true c.requires.plugs.many c.index-channels-c.is c.index-plugs-c.is c.ready_on-up.ensures
    c.with_bit-mask.ensures c.loop-c.invariant
