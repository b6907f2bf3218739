use Rattle.std.proofs.Common.{◌≡◌, drop, map}
use Rattle.std.specs.List.{flat_map}
use Rattle.vlog_tree.specs.Plain.{plain_item}
use Rattle.flat_parts.specs.vlog_driver.Placed.{Placed, placed, names_at}
use Rattle.flat_parts.specs.vlog_driver.Next.{item_initials}
use Rattle.flat_registers.specs.Tables.{with_entries}
use Rattle.flat_registers.proofs.initials.add_items.Given as goal

abbrev pub invariant-loop-item : goal.invariant-loop-item
invariant-loop-item l =
    let own = λ (p : Placed). item_initials (names_at l.scope p.declared) l.scope p.item in
    with_entries l.numbers (flat_map own (placed l.scope.params l.count (map plain_item (drop l.item-index l.items))))
    ≡ with_entries l.initial.numbers (flat_map own (placed l.scope.params l.declared (map plain_item l.items)))
