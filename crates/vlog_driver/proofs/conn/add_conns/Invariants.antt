use Rattle.std.proofs.Common.{map, drop}
use Rattle.std.specs.List.{AllByRecursion, flat_map}
use Rattle.vlog_tree.specs.Plain.{plain_conn}
use Rattle.vlog_driver.specs.Sites.{site_of}
use Rattle.vlog_driver.specs.Duties.{conn_duties, IsFaultlessConn}
use Rattle.vlog_driver.proofs.More.{Going}
use Rattle.vlog_driver.proofs.conn.add_conns.Given as goal

abbrev pub invariant-loop-conn : goal.invariant-loop-conn
invariant-loop-conn l =
    Going (λ xs. flat_map (conn_duties l.names (site_of l.parent) (site_of l.child)) (map plain_conn xs)) (drop l.conn-index l.conns)
    l.conns l.out l.initial.out
    × AllByRecursion (IsFaultlessConn l.names (site_of l.parent) (site_of l.child)) (map plain_conn (drop l.conn-index l.conns))
