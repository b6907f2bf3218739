use Rattle.std.proofs.Common.{◌≡◌, ◌<◌, ◌+◌, ◌*◌, ◌++◌, map, drop, length}
use Rattle.std.specs.List.{flat_map}
use Rattle.vlog_hierarchy.specs.Plain.{plain_child, plain_outlines}
use Rattle.vlog_hierarchy.specs.Clock.{child_scopes, joined_at}
use Rattle.vlog_hierarchy.proofs.scopes.+add.Given as goal

abbrev pub decreases-add_scopes : goal.decreases-add_scopes
decreases-add_scopes l = 3 * l.depth

abbrev pub decreases-add_children : goal.decreases-add_children
decreases-add_children l = 3 * l.depth + 1

abbrev pub decreases-add_inside : goal.decreases-add_inside
decreases-add_inside l = 3 * l.depth + 2

abbrev pub invariant-add_children-loop-child : goal.invariant-add_children-loop-child
invariant-add_children-loop-child l = record {
  all : l.out ++ flat_map (child_scopes l.depth (plain_outlines l.outlines) (joined_at l.initial.out l.at))
      (map plain_child (drop l.child-index l.children))
      ≡ l.initial.out ++ flat_map (child_scopes l.depth (plain_outlines l.outlines) (joined_at l.initial.out l.at))
      (map plain_child l.children);
  own : joined_at l.out l.at ≡ joined_at l.initial.out l.at;
  within : l.at < length l.out;
}
