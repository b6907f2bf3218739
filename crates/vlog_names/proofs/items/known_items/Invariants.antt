use Rattle.std.proofs.Common.{◌≡◌, drop, map}
use Rattle.std.specs.List.{flat_map}
use Rattle.vlog_tree.specs.Plain.{plain_item}
use Rattle.vlog_names.specs.Unknown.{unknown_item}
use Rattle.vlog_names.proofs.items.known_items.Given as goal

abbrev pub invariant-loop-item : goal.invariant-loop-item
invariant-loop-item l =
    flat_map (unknown_item l.modules l.names) (map plain_item (drop l.item-index l.items))
    ≡ flat_map (unknown_item l.modules l.names) (map plain_item l.items)
