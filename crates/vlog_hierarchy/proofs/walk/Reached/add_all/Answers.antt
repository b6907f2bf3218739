use Rattle.vlog_hierarchy.proofs.Added.{next_in, next_added}
use Rattle.vlog_hierarchy.proofs.walk.Reached.add_all.Goals as goal

pub add-requires : goal.add-requires
add-requires c =
    c.loop-child.invariant.below c.child-item.result.place
    (next_in c.args.children.now c.loop-child.child-index c.child-item.result c.loop-child-test.true c.child-item.is)

pub loop-child-preserved : goal.loop-child-preserved
loop-child-preserved c =
    let p = next_added c.args.children.now c.loop-child.child-index c.child-item.result c.loop-child.self.marks c.add.new.self.marks
    c.loop-child.self.found c.add.new.self.found _ _ c.loop-child-test.true c.child-item.is c.loop-child.invariant.below
    c.loop-child.invariant.marks c.loop-child.invariant.found c.in_ok-add.ensures.marks c.in_ok-add.ensures.found in
    record { below = p.0; marks = p.1; found = p.2 }
