use Rattle.std.proofs.Common.{◌≡◌, drop}
use Rattle.axi_burst.specs.Kinds.{is_said}
use Rattle.axi_burst.proofs.reading.is_said.Given as goal

abbrev pub invariant-loop-l : goal.invariant-loop-l
invariant-loop-l l = is_said (drop l.l-index l.lines) l.entry ≡ is_said l.lines l.entry
