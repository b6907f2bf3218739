use Rattle.std.proofs.Common.{◌≡◌, ℕ, List, subst}
use Rattle.net_order.specs.Graph.{Points}
use Rattle.net_order.specs.Turn.{IsTurned}
use Rattle.net_order.proofs.Turns.{turned_loop}
use Rattle.net_order.proofs.search.Search.close.Goals as goal

pub returns : goal.returns
returns c =
    let path = c.args.self.now.path.items in
    let ds = c.in_ok-drivers.drivers in
    let e : c.deref.result.now ≡ path = c.deref.ensures.value in
    turned_loop (Points c.args.graph.now) path c.requires.sound.linked c.requires.sound.once c.args.next ds c.requires.read
    (subst (λ (p : List ℕ). IsTurned p c.args.next ds) e c.in_ok-drivers.ensures)
