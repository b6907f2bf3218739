use Rattle.std.proofs.Common.{map}
use Rattle.std.specs.List.{flat_map}
use Rattle.vlog_tree.specs.Plain.{plain_item}
use Rattle.flat_parts.specs.vlog_driver.Placed.{Placed, placed, names_at}
use Rattle.flat_parts.specs.vlog_driver.Next.{item_initials}
use Rattle.flat_registers.specs.Tables.{with_entries}
use Rattle.flat_registers.proofs.Entries.{items_step}
use Rattle.flat_registers.proofs.initials.add_items.Goals as goal

pub loop-item-preserved : goal.loop-item-preserved
loop-item-preserved c =
    let own = λ (p : Placed). item_initials (names_at c.args.scope.now p.declared) c.args.scope.now p.item in
    items_step own c.args.scope.now.params c.loop-item.count c.declared_after-count.result c.args.items.now c.loop-item.item-index
    c.item-item.result c.loop-item.numbers c.add_item.new.numbers
    (with_entries c.args.numbers.now (flat_map own (placed c.args.scope.now.params c.args.declared (map plain_item c.args.items.now))))
    c.loop-item-test.true c.item-item.is c.in_ok-add_item.ensures c.declared_after-count.ensures c.loop-item.invariant
