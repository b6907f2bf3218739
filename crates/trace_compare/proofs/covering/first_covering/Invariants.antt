use Rattle.std.proofs.Common.{◌≡◌, ℕ, length, get_or}
use Rattle.vec_clock.specs.Counts.{clock_counts}
use Rattle.trace_compare.proofs.FirstCovers.{NoneCovers}
use Rattle.trace_compare.proofs.covering.first_covering.Given as goal

abbrev pub invariant-loop-at : goal.invariant-loop-at
invariant-loop-at l = record {
  now : l.carried ≡ clock_counts (length l.other) l.packets l.at;
  none : NoneCovers (length l.other) l.packets (λ d. get_or l.other d 0) l.from l.at;
}
