use Rattle.net_order.specs.Order.{IsOrder, IsOrderBy, Reads}
use Rattle.net_order.specs.Graph.{Points}
use Rattle.net_order.specs.Steps.{IsLoopError}
use Rattle.std.proofs.Common.{length}
use Rattle.net_order.proofs.GraphLaws.{graph_closed, order_of, error_of, if_ok, if_err}
use Rattle.net_order.proofs.graph.sorted_drivers.Goals as goal

pub sorted-requires : goal.sorted-requires
sorted-requires c = graph_closed c.args.design.now c.args.graph.now c.requires

pub returns-clause-order : goal.returns-clause-order
returns-clause-order c =
    let d = c.args.design.now in
    let g = c.args.graph.now in
    if_ok (λ order. IsOrderBy (length g) (Points g) order) (λ order. IsOrder d order) c.sorted.result (order_of d g c.requires)
    c.sorted.ensures.order

pub returns-clause-no_order : goal.returns-clause-no_order
returns-clause-no_order c =
    let d = c.args.design.now in
    let g = c.args.graph.now in
    if_err (λ e. IsLoopError (Points g) e) (λ e. IsLoopError (Reads d) e) c.sorted.result
    (error_of d g c.requires) c.sorted.ensures.no_order
