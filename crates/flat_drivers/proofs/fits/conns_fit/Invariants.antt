use Rattle.std.proofs.Common.{map, drop}
use Rattle.std.specs.List.{AllByRecursion}
use Rattle.vlog_tree.specs.Plain.{plain_conn}
use Rattle.flat_parts.specs.vlog_driver.Sites.{site_of}
use Rattle.flat_parts.specs.vlog_driver.Duties.{IsFaultlessConn}
use Rattle.flat_drivers.proofs.fits.conns_fit.Given as goal

abbrev pub invariant-loop-conn : goal.invariant-loop-conn
invariant-loop-conn l =
    AllByRecursion (IsFaultlessConn l.names (site_of l.parent) (site_of l.child)) (map plain_conn (drop l.conn-index l.conns))
    → AllByRecursion (IsFaultlessConn l.names (site_of l.parent) (site_of l.child)) (map plain_conn l.conns)
