use Rattle.std.proofs.Common.{ℕ, map}
use Rattle.std.specs.List.{flat_map}
use Rattle.vlog_tree.specs.Tree.{PortOf}
use Rattle.vlog_tree.specs.Plain.{plain_port}
use Rattle.flat_parts.specs.vlog_driver.Placed.{names_at}
use Rattle.flat_parts.specs.vlog_driver.Next.{port_initials}
use Rattle.flat_registers.specs.Tables.{with_entries}
use Rattle.flat_registers.proofs.Entries.{entries_step}
use Rattle.flat_registers.proofs.initials.add_ports.Goals as goal

pub loop-port-preserved : goal.loop-port-preserved
loop-port-preserved c =
    let own = λ (p : PortOf ℕ). port_initials (names_at c.args.scope.now c.args.declared) c.args.scope.now p.id p.init in
    entries_step own plain_port c.args.ports.now c.loop-port.port-index c.port-item.result c.loop-port.numbers c.add_port.new.numbers
    (with_entries c.args.numbers.now (flat_map own (map plain_port c.args.ports.now)))
    c.loop-port-test.true c.port-item.is c.in_ok-add_port.ensures c.loop-port.invariant
