use Rattle.replay_checks.proofs.needs_tests.counts_from.Given as goal

abbrev pub invariant-loop-number : goal.invariant-loop-number
invariant-loop-number l = Unit {0}
