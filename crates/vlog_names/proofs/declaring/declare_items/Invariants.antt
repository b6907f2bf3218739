use Rattle.std.proofs.Common.{◌≡◌, ◌++◌, drop, map}
use Rattle.std.specs.List.{flat_map}
use Rattle.vlog_tree.specs.Plain.{plain_item}
use Rattle.vlog_names.specs.Entries.{item_entries}
use Rattle.vlog_names.specs.Twice.{twice_items}
use Rattle.vlog_names.proofs.declaring.declare_items.Given as goal

abbrev pub invariant-loop-item : goal.invariant-loop-item
invariant-loop-item l =
    let rest = map plain_item (drop l.item-index l.items) in
    let all = map plain_item l.items in
    record {
      told : twice_items l.names rest ≡ twice_items l.initial.names all;
      kept : l.names ++ flat_map item_entries rest ≡ l.initial.names ++ flat_map item_entries all;
    }
