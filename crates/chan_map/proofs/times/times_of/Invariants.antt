use Rattle.std.proofs.Common.{take}
use Rattle.chan_map.specs.Reasons.{all_names}
use Rattle.chan_map.specs.Times.{AreTimes}
use Rattle.chan_map.proofs.times.times_of.Given as goal

abbrev pub invariant-loop-l : goal.invariant-loop-l
invariant-loop-l l = AreTimes l.top.design.now.ports (all_names (take l.l-index l.lines)) l.counts
