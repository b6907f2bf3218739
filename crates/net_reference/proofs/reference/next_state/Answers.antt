use Rattle.std.proofs.Common.{◌∙◌}
use Rattle.net_design.proofs.UpdateLaws.{blocks_step}
use Rattle.net_reference.proofs.reference.next_state.Goals as goal

pub loop-block-preserved : goal.loop-block-preserved
loop-block-preserved c =
    blocks_step c.as_slice-block-items.result.now c.loop-block.block-index c.block-item.result c.in_ok-made.made c.args.values.now
    c.loop-block.after c.apply.new.values
    c.loop-block-test.true c.block-item.is c.in_ok-made.ensures.same (cc)
    ∙ c.loop-block.invariant
