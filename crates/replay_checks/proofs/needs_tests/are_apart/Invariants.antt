use Rattle.replay_checks.proofs.needs_tests.are_apart.Given as goal

abbrev pub invariant-loop-c : goal.invariant-loop-c
invariant-loop-c l = Unit {0}
