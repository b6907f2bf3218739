use Rattle.std.specs.Prelude.{take}
use Rattle.trace_compare.specs.Tally.{IsTally}
use Rattle.trace_compare.specs.Walking.{early_at}
use Rattle.trace_compare.proofs.pairs.early_events.Given as goal

abbrev pub invariant-loop-i : goal.invariant-loop-i
invariant-loop-i l = IsTally (take l.i (early_at l.covering l.in_a l.in_b)) l.tally
