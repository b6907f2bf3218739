use Rattle.std.proofs.Common.{◌≡◌, drop}
use Rattle.axi_burst.specs.Reading.{has_line}
use Rattle.axi_burst.proofs.reading.has_line.Given as goal

abbrev pub invariant-loop-line : goal.invariant-loop-line
invariant-loop-line l = has_line (drop l.line-index l.lines) l.role ≡ has_line l.lines l.role
