use Rattle.std.proofs.Common.{arith}
use Rattle.flat_layout.proofs.Chains.{one_name}
use Rattle.flat_layout.proofs.instance.begins_with.Goals as goal

pub loop-place-preserved : goal.loop-place-preserved
loop-place-preserved c =
    one_name c.args.path.now c.args.front.now c.loop-place.place c.index-path-place.result c.index-front-place.result (omega arith)
    (omega arith) c.index-path-place.is c.index-front-place.is (c.same_name.ensures.0 c.if-not-same_name.false) c.loop-place.invariant
