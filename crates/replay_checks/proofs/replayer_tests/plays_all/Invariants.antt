use Rattle.std.proofs.Common.{◌≡◌}
use Rattle.replay_checks.proofs.replayer_tests.plays_all.Given as goal

abbrev pub invariant-loop-cycles : goal.invariant-loop-cycles
invariant-loop-cycles g l = record { map : g.S.ReplayShell.map l.shell ≡ g.S.ReplayShell.map l.fn.shell }
