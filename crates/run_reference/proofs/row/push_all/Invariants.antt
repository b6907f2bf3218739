use Rattle.std.proofs.Common.{◌≡◌, ◌++◌, drop}
use Rattle.run_reference.proofs.row.push_all.Given as goal

abbrev pub invariant-loop-number : goal.invariant-loop-number
invariant-loop-number l = l.out ++ drop l.number-index l.numbers ≡ l.initial.out ++ l.numbers
