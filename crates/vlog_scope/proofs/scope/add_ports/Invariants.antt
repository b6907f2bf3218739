use Rattle.std.proofs.Common.{◌≡◌, drop, map}
use Rattle.vlog_tree.specs.Plain.{plain_port}
use Rattle.vlog_scope.specs.Scope.{with_ports}
use Rattle.vlog_scope.proofs.scope.add_ports.Given as goal

abbrev pub invariant-loop-port : goal.invariant-loop-port
invariant-loop-port l = with_ports l.extent l.scope (map plain_port (drop l.port-index l.ports))
    ≡ with_ports l.initial.extent l.initial.scope (map plain_port l.ports)
