use Rattle.std.proofs.Common.{◌≡◌, drop}
use Rattle.axi_burst.specs.Binding.{line_of}
use Rattle.axi_burst.proofs.binding.line_of.Given as goal

abbrev pub invariant-loop-l : goal.invariant-loop-l
invariant-loop-l l = line_of (drop l.l-index l.lines) l.role ≡ line_of l.lines l.role
