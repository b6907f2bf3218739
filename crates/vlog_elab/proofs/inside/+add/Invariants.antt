use Rattle.std.proofs.Common.{◌+◌, ◌*◌, ◌++◌, map, drop}
use Rattle.std.specs.Prelude.{slice_get}
use Rattle.std.specs.List.{flat_map}
use Rattle.vlog_tree.specs.Plain.{plain_item}
use Rattle.vlog_elab.specs.Instances.{within}
use Rattle.vlog_elab.specs.Inside.{children_past}
use Rattle.vlog_elab.specs.Plain.{trees_in, plain_instances}
use Rattle.vlog_elab.proofs.Added.{Before}
use Rattle.vlog_elab.proofs.inside.+add.Given as goal

abbrev pub decreases-add_items : goal.decreases-add_items
decreases-add_items l = 2 * l.depth

abbrev pub decreases-add_inside : goal.decreases-add_inside
decreases-add_inside l = 2 * l.depth + 1

abbrev pub invariant-add_items-loop-item : goal.invariant-add_items-loop-item
invariant-add_items-loop-item l = Before (trees_in l.modules) l.depth l.at (plain_instances l.initial.out) (plain_instances l.out)
    (plain_instances l.initial.out ++ flat_map (within l.depth (trees_in l.modules))
    (children_past (trees_in l.modules) (slice_get (plain_instances l.initial.out) l.at) l.initial.count (map plain_item l.items)))
    l.count (map plain_item (drop l.item-index l.items))
