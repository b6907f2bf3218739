use Rattle.std.proofs.Common.{List, subst}
use Rattle.net_design.specs.declared.design.Driver.{Driver}
use Rattle.net_order.specs.declared.writers.Writer.{Writer}
use Rattle.net_order.specs.Index.{AreRows}
use Rattle.net_order.proofs.GraphLaws.{rows_are_graph}
use Rattle.net_order.proofs.graph.graph_of.Goals as goal

pub returns : goal.returns
returns c =
    let d = c.args.design.now in
    let writers = c.in_ok-writers.writers.items in
    let g = c.in_ok-graph.graph in
    rows_are_graph d c.requires writers c.in_ok-writers.ensures g
    (subst (λ (ws : List (List Writer)). AreRows ws d.drivers g) c.deref.ensures.value
    (subst (λ (xs : List Driver). AreRows c.deref.result.now xs g) c.as_slice.ensures c.in_ok-graph.ensures))
