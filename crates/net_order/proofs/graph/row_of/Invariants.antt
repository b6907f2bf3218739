use Rattle.std.proofs.Common.{◌≡◌, ℕ, ◌||◌, drop}
use Rattle.net_order.specs.Index.{found, in_row}
use Rattle.net_order.proofs.graph.row_of.Given as goal

abbrev pub invariant-loop-mask : goal.invariant-loop-mask
invariant-loop-mask l = (j : ℕ) → (in_row l.row j || found l.writers (drop l.mask-index l.reads) j) ≡ found l.writers l.reads j
