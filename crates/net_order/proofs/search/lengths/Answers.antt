use Rattle.std.proofs.Common.{arith}
use Rattle.net_order.proofs.Ends.{counted}
use Rattle.net_order.proofs.search.lengths.Goals as goal

pub returns-clause-each : goal.returns-clause-each
returns-clause-each c = counted c.args.graph.now c.loop-numbers.numbers-index c.loop-numbers.left.items c.loop-numbers.invariant
    (omega (arith, c.loop-numbers-test.false))
