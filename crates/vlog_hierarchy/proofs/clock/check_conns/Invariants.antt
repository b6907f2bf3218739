use Rattle.std.proofs.Common.{◌≡◌, map, drop}
use Rattle.std.specs.List.{flat_map}
use Rattle.vlog_tree.specs.Plain.{plain_conn}
use Rattle.vlog_hierarchy.specs.Clock.{conn_faults}
use Rattle.vlog_hierarchy.proofs.clock.check_conns.Given as goal

abbrev pub invariant-loop-conn : goal.invariant-loop-conn
invariant-loop-conn l =
    flat_map (conn_faults l.marks l.joined) (map plain_conn (drop l.conn-index l.conns))
    ≡ flat_map (conn_faults l.marks l.joined) (map plain_conn l.conns)
