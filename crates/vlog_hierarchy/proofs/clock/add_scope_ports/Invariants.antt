use Rattle.std.proofs.Common.{◌≡◌, ◌++◌, map, drop}
use Rattle.std.specs.List.{flat_map}
use Rattle.vlog_tree.specs.Plain.{plain_item}
use Rattle.vlog_hierarchy.specs.Clock.{item_ports}
use Rattle.vlog_hierarchy.proofs.clock.add_scope_ports.Given as goal

abbrev pub invariant-loop-item : goal.invariant-loop-item
invariant-loop-item l =
    l.ports ++ flat_map (item_ports l.scope.joined) (map plain_item (drop l.item-index l.items))
    ≡ l.initial.ports ++ flat_map (item_ports l.scope.joined) (map plain_item l.items)
