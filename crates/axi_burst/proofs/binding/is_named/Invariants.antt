use Rattle.std.proofs.Common.{◌≡◌, drop}
use Rattle.axi_burst.specs.Binding.{is_named}
use Rattle.axi_burst.proofs.binding.is_named.Given as goal

abbrev pub invariant-loop-l : goal.invariant-loop-l
invariant-loop-l l = is_named (drop l.l-index l.lines) l.name ≡ is_named l.lines l.name
