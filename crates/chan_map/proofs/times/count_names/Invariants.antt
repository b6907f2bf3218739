use Rattle.std.proofs.Common.{take}
use Rattle.chan_map.specs.Times.{Adds}
use Rattle.chan_map.proofs.times.count_names.Given as goal

abbrev pub invariant-loop-name : goal.invariant-loop-name
invariant-loop-name l = Adds l.top.design.now.ports (take l.name-index l.names) l.initial.counts l.counts
