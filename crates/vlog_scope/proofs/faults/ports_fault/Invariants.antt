use Rattle.std.proofs.Common.{◌≡◌, drop, map}
use Rattle.vlog_tree.specs.Plain.{plain_port}
use Rattle.vlog_size.specs.Names.{readable_in}
use Rattle.vlog_scope.specs.Faults.{ports_faults}
use Rattle.vlog_scope.proofs.faults.ports_fault.Given as goal

abbrev pub invariant-loop-port : goal.invariant-loop-port
invariant-loop-port l = ports_faults l.kind (readable_in l.view) l.extent (map plain_port (drop l.port-index l.ports))
    ≡ ports_faults l.kind (readable_in l.view) l.initial.extent (map plain_port l.ports)
