use Rattle.std.proofs.Common.{ℕ}
use Rattle.trace_v2.specs.trace_code.Stands.{Stands, WalksOver}
use Rattle.trace_code_checks.proofs.walk_tests.passes_all.Given as goal

abbrev pub invariant-loop-event : goal.invariant-loop-event
invariant-loop-event l = record {
  j : ℕ;
  stands : Stands l.cursor l.t j;
  over : WalksOver l.cursor l.kind l.channel;
}
