use Rattle.std.proofs.Common.{◌≡◌, map, drop}
use Rattle.std.specs.List.{flat_map}
use Rattle.vlog_tree.specs.Plain.{plain_item}
use Rattle.vlog_hierarchy.specs.Clock.{item_faults}
use Rattle.vlog_hierarchy.proofs.clock.check_items.Given as goal

abbrev pub invariant-loop-item : goal.invariant-loop-item
invariant-loop-item l =
    flat_map (item_faults l.wanted l.marks l.joined) (map plain_item (drop l.item-index l.items))
    ≡ flat_map (item_faults l.wanted l.marks l.joined) (map plain_item l.items)
