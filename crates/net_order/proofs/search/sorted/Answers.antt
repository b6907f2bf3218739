use Rattle.std.proofs.Common.{arith}
use Rattle.net_order.proofs.Ends.{ordered}
use Rattle.net_order.proofs.search.sorted.Goals as goal

pub returns-clause-order : goal.returns-clause-order
returns-clause-order c =
    let s = c.loop-root.search in
    let inv = c.loop-root.invariant in
    ordered c.args.graph.now s.marks.items s.left.items s.path.items s.order inv.sound inv.empty
    (λ i l. inv.begun i (omega (arith, l, c.loop-root-test.false)))
