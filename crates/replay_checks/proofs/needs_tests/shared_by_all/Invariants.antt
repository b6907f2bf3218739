use Rattle.std.proofs.Common.{◌≡◌, ◌*◌, length}
use Rattle.replay_checks.proofs.needs_tests.shared_by_all.Given as goal

abbrev pub invariant-loop-c : goal.invariant-loop-c
invariant-loop-c l = length l.needs ≡ l.channels * l.channels
