use Rattle.vlog_tree.specs.Plain.{plain_conn}
use Rattle.flat_parts.specs.vlog_driver.Sites.{site_of}
use Rattle.flat_parts.specs.vlog_driver.Duties.{IsFaultlessConn}
use Rattle.flat_drivers.proofs.Added.{left_first}
use Rattle.flat_drivers.proofs.fits.conns_fit.Goals as goal

pub loop-conn-preserved : goal.loop-conn-preserved
loop-conn-preserved c = λ rest. c.loop-conn.invariant
    (left_first (IsFaultlessConn c.args.names.now (site_of c.args.parent.now) (site_of c.args.child.now)) plain_conn c.args.conns.now
    c.loop-conn.conn-index c.conn-item.result c.loop-conn-test.true c.conn-item.is (c.in_ok-conn_fits.ensures c.if-not-branch.false) rest)
