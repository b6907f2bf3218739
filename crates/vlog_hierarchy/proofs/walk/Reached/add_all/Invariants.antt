use Rattle.std.proofs.Common.{◌≡◌, ◌++◌, drop, length}
use Rattle.vlog_hierarchy.specs.Reach.{child_places, marked_all, fresh, AreBelow}
use Rattle.vlog_hierarchy.proofs.walk.Reached.add_all.Given as goal

abbrev pub invariant-loop-child : goal.invariant-loop-child
invariant-loop-child l = record {
  below : AreBelow (length l.self.marks) (child_places (drop l.child-index l.children));
  marks : marked_all l.self.marks (child_places (drop l.child-index l.children))
      ≡ marked_all l.initial.self.marks (child_places l.children);
  found : l.self.found ++ fresh l.self.marks (child_places (drop l.child-index l.children))
      ≡ l.initial.self.found ++ fresh l.initial.self.marks (child_places l.children);
}
