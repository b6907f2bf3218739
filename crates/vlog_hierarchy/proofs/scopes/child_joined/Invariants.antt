use Rattle.std.proofs.Common.{◌≡◌, [], map, drop}
use Rattle.vlog_tree.specs.Plain.{plain_conn}
use Rattle.vlog_hierarchy.specs.Clock.{conns_joined}
use Rattle.vlog_hierarchy.proofs.scopes.child_joined.Given as goal

abbrev pub invariant-loop-conn : goal.invariant-loop-conn
invariant-loop-conn l =
    conns_joined l.joined l.inner (map plain_conn (drop l.conn-index l.instance.ports))
    ≡ conns_joined l.joined [] (map plain_conn l.instance.ports)
