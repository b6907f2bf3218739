use Rattle.std.proofs.Common.{◌≡◌, false, replicate}
use Rattle.chan_monitor.proofs.cycles.monitors_for.Given as goal

abbrev pub invariant-loop : goal.invariant-loop
invariant-loop l = l.monitors ≡ replicate l.counter false
