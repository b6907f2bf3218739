use Rattle.std.proofs.Common.{◌≡◌, drop, map}
use Rattle.vlog_tree.specs.Plain.{plain_item}
use Rattle.vlog_scope.specs.Scope.{with_items}
use Rattle.vlog_scope.proofs.scope.add_items.Given as goal

abbrev pub invariant-loop-item : goal.invariant-loop-item
invariant-loop-item l = with_items l.scope (map plain_item (drop l.item-index l.items))
    ≡ with_items l.initial.scope (map plain_item l.items)
