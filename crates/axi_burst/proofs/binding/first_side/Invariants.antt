use Rattle.std.proofs.Common.{◌≡◌, drop}
use Rattle.axi_burst.specs.Binding.{first_side}
use Rattle.axi_burst.proofs.binding.first_side.Given as goal

abbrev pub invariant-loop-l : goal.invariant-loop-l
invariant-loop-l l = first_side l.channels (drop l.l-index l.lines) ≡ first_side l.channels l.lines
