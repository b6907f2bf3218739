use Rattle.std.proofs.Common.{◌≡◌, ◌≢◌, ℕ, ◌<◌, []}
use Rattle.net_order.specs.declared.search.Mark.TheVariants.{Fresh}
use Rattle.net_order.specs.Search.{mark_of}
use Rattle.net_order.specs.Steps.{IsSearch}
use Rattle.net_order.proofs.search.sorted.Given as goal

abbrev pub invariant-loop-root : goal.invariant-loop-root
invariant-loop-root l = record {
  sound : IsSearch l.graph l.search;
  empty : l.search.path.items ≡ [];
  begun : (i : ℕ) → i < l.root → mark_of l.search.marks.items i ≢ Fresh;
}
