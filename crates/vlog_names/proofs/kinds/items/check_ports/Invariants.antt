use Rattle.std.proofs.Common.{◌≡◌, drop, map}
use Rattle.std.specs.List.{flat_map}
use Rattle.vlog_tree.specs.Plain.{plain_port}
use Rattle.vlog_names.specs.Uses.{in_port}
use Rattle.vlog_names.proofs.kinds.items.check_ports.Given as goal

abbrev pub invariant-loop-port : goal.invariant-loop-port
invariant-loop-port l =
    flat_map (in_port l.names) (map plain_port (drop l.port-index l.ports)) ≡ flat_map (in_port l.names) (map plain_port l.ports)
