use Rattle.std.proofs.Common.{◌≡◌, drop, map}
use Rattle.vlog_tree.specs.Plain.{plain_item}
use Rattle.vlog_scope.specs.Faults.{items_faults}
use Rattle.vlog_scope.proofs.items.items_fault.Given as goal

abbrev pub invariant-loop-item : goal.invariant-loop-item
invariant-loop-item l = items_faults l.kind l.scope l.count (map plain_item (drop l.item-index l.items))
    ≡ items_faults l.kind l.scope l.initial.count (map plain_item l.items)
