use Rattle.std.proofs.Common.{length}
use Rattle.trace_code.proofs.Skips.{Skipped}
use Rattle.trace_code.proofs.skipping.skip_packets.Given as goal

abbrev pub invariant-loop-after : goal.invariant-loop-after
invariant-loop-after l = Skipped l.channels l.bytes l.packets l.flying l.rest

abbrev pub decreases-loop-after : goal.decreases-loop-after
decreases-loop-after l = length l.rest
