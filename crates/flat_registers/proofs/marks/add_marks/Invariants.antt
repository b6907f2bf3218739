use Rattle.std.proofs.Common.{◌≡◌, ◌++◌, drop}
use Rattle.flat_registers.proofs.MarkLaws.{marks_in}
use Rattle.flat_registers.proofs.marks.add_marks.Given as goal

abbrev pub invariant-loop-place : goal.invariant-loop-place
invariant-loop-place l = l.out ++ marks_in l.names (drop l.place l.nets) ≡ l.initial.out ++ marks_in l.names l.nets
