use Rattle.std.proofs.Common.{◌≡◌, ℕ, List, map, take, length}
use Rattle.net_order.proofs.search.lengths.Given as goal

abbrev pub invariant-loop-numbers : goal.invariant-loop-numbers
invariant-loop-numbers l = l.left.items ≡ map (λ (x : List ℕ). length x) (take l.numbers-index l.graph)
