use Rattle.std.proofs.Common.{◌≡◌, drop}
use Rattle.axi_burst.specs.Kinds.{has_role}
use Rattle.axi_burst.proofs.reading.has_role.Given as goal

abbrev pub invariant-loop-l : goal.invariant-loop-l
invariant-loop-l l = has_role (drop l.l-index l.lines) l.role ≡ has_role l.lines l.role
