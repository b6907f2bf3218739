use Rattle.std.proofs.Common.{◌≡◌, ℕ, ◌||◌, drop}
use Rattle.net_order.specs.Index.{met, in_row}
use Rattle.net_order.proofs.graph.add_all_met.Given as goal

abbrev pub invariant-loop-writer : goal.invariant-loop-writer
invariant-loop-writer l = (j : ℕ) → (in_row l.row j || met l.bits (drop l.writer-index l.writers) j)
    ≡ (in_row l.initial.row j || met l.bits l.writers j)
