use Rattle.std.proofs.Common.{◌≡◌, drop, map}
use Rattle.vlog_tree.specs.Plain.{plain_item}
use Rattle.vlog_scope.specs.Params.{items_params}
use Rattle.vlog_scope.proofs.parameters.add_items.Given as goal

abbrev pub invariant-loop-item : goal.invariant-loop-item
invariant-loop-item l = items_params l.so_far (map plain_item (drop l.item-index l.items))
    ≡ items_params l.initial.so_far (map plain_item l.items)
