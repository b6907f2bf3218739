use Rattle.std.proofs.Common.{◌≡◌, ℕ, drop, map}
use Rattle.std.specs.List.{flat_map}
use Rattle.vlog_tree.specs.Tree.{PortOf}
use Rattle.vlog_tree.specs.Plain.{plain_port}
use Rattle.flat_parts.specs.vlog_driver.Placed.{names_at}
use Rattle.flat_parts.specs.vlog_driver.Next.{port_initials}
use Rattle.flat_registers.specs.Tables.{with_entries}
use Rattle.flat_registers.proofs.initials.add_ports.Given as goal

abbrev pub invariant-loop-port : goal.invariant-loop-port
invariant-loop-port l =
    let own = λ (p : PortOf ℕ). port_initials (names_at l.scope l.declared) l.scope p.id p.init in
    with_entries l.numbers (flat_map own (map plain_port (drop l.port-index l.ports)))
    ≡ with_entries l.initial.numbers (flat_map own (map plain_port l.ports))
