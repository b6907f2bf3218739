use Rattle.std.proofs.Common.{◌≡◌, drop, map}
use Rattle.std.specs.List.{flat_map}
use Rattle.vlog_tree.specs.Plain.{plain_conn}
use Rattle.vlog_names.specs.Uses.{in_connected}
use Rattle.vlog_names.proofs.kinds.connections.check_connected.Given as goal

abbrev pub invariant-loop-conn : goal.invariant-loop-conn
invariant-loop-conn l =
    flat_map (in_connected l.names) (map plain_conn (drop l.conn-index l.conns)) ≡ flat_map (in_connected l.names) (map plain_conn l.conns)
