use Rattle.std.proofs.Common.{◌≡◌, drop, map}
use Rattle.std.specs.List.{flat_map}
use Rattle.vlog_tree.specs.Plain.{plain_conn}
use Rattle.vlog_names.specs.Unknown.{unknown_parameter_conn}
use Rattle.vlog_names.proofs.connections.known_parameter_conns.Given as goal

abbrev pub invariant-loop-conn : goal.invariant-loop-conn
invariant-loop-conn l =
    flat_map (unknown_parameter_conn l.child l.names) (map plain_conn (drop l.conn-index l.conns))
    ≡ flat_map (unknown_parameter_conn l.child l.names) (map plain_conn l.conns)
