use Rattle.std.proofs.Common.{◌≡◌, ◌≤◌, ◌+◌, ◌*◌, ◌++◌, map, drop, length}
use Rattle.std.specs.List.{flat_map}
use Rattle.vlog_hierarchy.specs.Plain.{plain_child, plain_outlines, plain_nodes, plain_path}
use Rattle.vlog_hierarchy.specs.Nodes.{child_nodes}
use Rattle.vlog_hierarchy.proofs.nodes.+add.Given as goal
use Rattle.vlog_hierarchy.specs.declared.nodes.TheConstants.{MOST_INSTANCES}

abbrev pub decreases-add_nodes : goal.decreases-add_nodes
decreases-add_nodes l = 3 * l.depth

abbrev pub decreases-add_children : goal.decreases-add_children
decreases-add_children l = 3 * l.depth + 1

abbrev pub decreases-add_inside : goal.decreases-add_inside
decreases-add_inside l = 3 * l.depth + 2

abbrev pub invariant-add_children-loop-child : goal.invariant-add_children-loop-child
invariant-add_children-loop-child l = record {
  value : plain_nodes l.out ++ flat_map (child_nodes l.depth (plain_outlines l.outlines) (plain_path l.path))
      (map plain_child (drop l.child-index l.children))
      ≡ plain_nodes l.initial.out ++ flat_map (child_nodes l.depth (plain_outlines l.outlines) (plain_path l.path))
      (map plain_child l.children);
  few : length l.out ≤ MOST_INSTANCES;
}
