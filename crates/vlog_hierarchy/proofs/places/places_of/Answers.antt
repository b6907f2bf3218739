use Rattle.vlog_hierarchy.proofs.PlaceLaws.{next_place}
use Rattle.vlog_hierarchy.proofs.places.places_of.Goals as goal

pub loop-place-preserved : goal.loop-place-preserved
loop-place-preserved c = λ q. next_place c.args.modules.now c.loop-place.place c.index-modules-place.result q _ _ _
    c.loop-place-test.true c.index-modules-place.is
    (c.loop-place.invariant q) (rw c.as_slice.ensures at (c.in_ok-add_place.ensures q))
