use Rattle.std.proofs.Common.{◌≡◌, ◌++◌, replicate}
use Rattle.net_sim.proofs.start.push_zeros.Given as goal

abbrev pub invariant-loop-done : goal.invariant-loop-done
invariant-loop-done l = l.numbers ≡ l.initial.numbers ++ replicate l._done 0
