use Rattle.std.proofs.Common.{◌≡◌, drop, map}
use Rattle.std.specs.List.{flat_map}
use Rattle.vlog_tree.specs.Plain.{plain_item}
use Rattle.vlog_names.specs.Uses.{in_item}
use Rattle.vlog_names.proofs.kinds.items.check_items.Given as goal

abbrev pub invariant-loop-item : goal.invariant-loop-item
invariant-loop-item l =
    flat_map (in_item l.modules l.names) (map plain_item (drop l.item-index l.items))
    ≡ flat_map (in_item l.modules l.names) (map plain_item l.items)
