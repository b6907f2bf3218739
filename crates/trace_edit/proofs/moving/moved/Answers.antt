use Rattle.std.proofs.Common.{◌++◌, ap, ◌∙◌}
use Rattle.trace_edit.specs.Moved.{placed}
use Rattle.trace_edit.proofs.Places.{placed-more}
use Rattle.trace_edit.proofs.moving.moved.Goals as goal

pub loop-at-preserved : goal.loop-at-preserved
loop-at-preserved c =
    c.in_ok-push_placed.ensures
    ∙ ap (λ xs. xs ++ placed c.args.m (c.loop-at.at, c.index-packets-at.result)) c.loop-at.invariant
    ∙ placed-more (placed c.args.m) c.args.packets.now c.loop-at.at c.index-packets-at.result c.loop-at-test.true c.index-packets-at.is
