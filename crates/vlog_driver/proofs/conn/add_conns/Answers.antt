use Rattle.std.proofs.Common.{refl, map}
use Rattle.std.specs.List.{flat_map}
use Rattle.vlog_tree.specs.Plain.{plain_conn}
use Rattle.vlog_driver.specs.Sites.{site_of}
use Rattle.vlog_driver.specs.Duties.{conn_duties, IsFaultlessConn}
use Rattle.vlog_driver.proofs.More.{go_on, first_left}
use Rattle.vlog_driver.proofs.conn.add_conns.Goals as goal

pub add_conn-requires : goal.add_conn-requires
add_conn-requires c =
    (first_left (IsFaultlessConn c.args.names.now (site_of c.args.parent.now) (site_of c.args.child.now)) plain_conn c.args.conns.now
    c.loop-conn.conn-index c.conn-item.result c.loop-conn-test.true c.conn-item.is c.loop-conn.invariant.1).0

pub loop-conn-preserved : goal.loop-conn-preserved
loop-conn-preserved c = (
  go_on (λ xs. flat_map (conn_duties c.args.names.now (site_of c.args.parent.now) (site_of c.args.child.now)) (map plain_conn xs))
      (λ x. conn_duties c.args.names.now (site_of c.args.parent.now) (site_of c.args.child.now) (plain_conn x)) (λ x rest. refl)
      c.args.conns.now c.loop-conn.conn-index c.conn-item.result c.loop-conn.out c.add_conn.new.out c.args.out.now c.loop-conn-test.true
      c.conn-item.is c.in_ok-add_conn.ensures c.loop-conn.invariant.0,
  (first_left (IsFaultlessConn c.args.names.now (site_of c.args.parent.now) (site_of c.args.child.now)) plain_conn c.args.conns.now
      c.loop-conn.conn-index c.conn-item.result c.loop-conn-test.true c.conn-item.is c.loop-conn.invariant.1).1,
)
