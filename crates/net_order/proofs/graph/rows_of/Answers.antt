use Rattle.net_order.proofs.RowLaws.{rows_more}
use Rattle.net_order.proofs.graph.rows_of.Goals as goal

pub loop-driver-preserved : goal.loop-driver-preserved
loop-driver-preserved c =
    rows_more c.args.writers.now c.args.drivers.now c.loop-driver.driver-index c.driver-item.result c.as_slice.result.now c.in_ok-row.row
    c.loop-driver.graph c.push.new.self c.loop-driver-test.true c.driver-item.is c.loop-driver.invariant c.as_slice.ensures
    c.in_ok-row.ensures c.in_ok-push.ensures.ok
