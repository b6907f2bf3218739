use Rattle.std.proofs.Common.{◌≡◌, ◌-◌, ◌<◌, slice_index, slice_index_or, length, arith, subst, sym}
use Rattle.std.proofs.lemmas.Grind.{common_steps}
use Rattle.net_design.specs.Names.{list_at}
use Rattle.net_order.proofs.Moves.{next_inside}
use Rattle.net_order.proofs.search.Search.next.Goals as goal

pub returns-clause-within : goal.returns-clause-within
returns-clause-within c =
    let s = c.args.self.now in
    let g = c.args.graph.now in
    let e : slice_index_or c.row.result.now (c.index.result.now - 1) 0
    ≡ slice_index (list_at g c.args.top) (slice_index s.left.items c.args.top - 1) = grind (arith, common_steps) in
    subst (λ x. x < length g) (sym e) (next_inside g s.marks.items s.left.items s.path.items s.order c.requires.sound c.requires.graph
    c.args.top c.requires.some)
