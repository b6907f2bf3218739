use Rattle.std.proofs.Common.{◌≡◌, take}
use Rattle.flat_drivers.proofs.copied.copied_table.Given as goal

abbrev pub invariant-loop-place : goal.invariant-loop-place
invariant-loop-place g l = l.copy ≡ take l.place l.table
