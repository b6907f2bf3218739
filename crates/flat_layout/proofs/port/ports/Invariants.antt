use Rattle.std.proofs.Common.{◌≡◌, ◌++◌, drop, map}
use Rattle.vlog_tree.specs.Plain.{plain_port}
use Rattle.net_design.specs.declared.design.Direction.TheVariants.{Input}
use Rattle.flat_layout.proofs.PortList.{ports_behind}
use Rattle.flat_layout.proofs.port.ports.Given as goal

abbrev pub invariant-loop-port : goal.invariant-loop-port
invariant-loop-port l =
    l.ports ++ ports_behind l.scope l.direction (map plain_port (drop l.port-index l.top.ports))
    ≡ ports_behind l.scope Input (map plain_port l.top.ports)
