use Rattle.std.proofs.Common.{◌≡◌}
use Rattle.axi_memory.specs.Memory.{merged}
use Rattle.axi_memory.proofs.word.merged.Given as goal

abbrev pub invariant-loop-k : goal.invariant-loop-k
invariant-loop-k l = l.word ≡ merged l.k l.old l.new l.strobe
