use Rattle.std.proofs.Common.{take}
use Rattle.trace_v2.specs.trace_code.NoReset.{HasNoReset}
use Rattle.vidi_answer.proofs.traces.first_reset.Given as goal

abbrev pub invariant-loop-index : goal.invariant-loop-index
invariant-loop-index l = HasNoReset (take l.index l.packets)
