use Rattle.std.proofs.Common.{◌≡◌, ◌++◌, map, drop}
use Rattle.std.specs.List.{flat_map}
use Rattle.vlog_tree.specs.Plain.{plain_item, plain_module}
use Rattle.vlog_hierarchy.specs.Outlines.{item_children}
use Rattle.vlog_hierarchy.specs.Plain.{plain_child}
use Rattle.vlog_hierarchy.proofs.outline.children_of.Given as goal

abbrev pub invariant-loop-item : goal.invariant-loop-item
invariant-loop-item l =
    map plain_child l.children
    ++ flat_map (item_children (map plain_module l.index.modules.now)) (map plain_item (drop l.item-index l.unit.items))
    ≡ flat_map (item_children (map plain_module l.index.modules.now)) (map plain_item l.unit.items)
