use Rattle.std.proofs.Common.{◌≡◌, ◌++◌, drop}
use Rattle.flat_drive.specs.Marked.{is_pin, kinds_from}
use Rattle.flat_drive.proofs.pins.kinds_with.Given as goal

abbrev pub invariant-loop-place : goal.invariant-loop-place
invariant-loop-place l = l.kinds ++ kinds_from (is_pin l.inputs l.nets) l.place (drop l.place l.marks)
    ≡ kinds_from (is_pin l.inputs l.nets) 0 l.marks
