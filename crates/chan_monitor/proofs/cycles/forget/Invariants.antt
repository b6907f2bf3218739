use Rattle.std.proofs.Common.{◌≡◌, false, replicate, take}
use Rattle.chan_monitor.proofs.cycles.forget.Given as goal

abbrev pub invariant-loop-monitor : goal.invariant-loop-monitor
invariant-loop-monitor l = take l.monitor-index l.monitors ≡ replicate l.monitor-index false
