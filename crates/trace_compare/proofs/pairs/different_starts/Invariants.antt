use Rattle.std.specs.Prelude.{take}
use Rattle.trace_compare.specs.Tally.{IsTally}
use Rattle.trace_compare.specs.Walking.{differing_at}
use Rattle.trace_compare.proofs.pairs.different_starts.Given as goal

abbrev pub invariant-loop-i : goal.invariant-loop-i
invariant-loop-i l = IsTally (take l.i (differing_at l.channels l.channel l.a l.b l.in_a l.in_b)) l.tally
