use Rattle.std.proofs.Common.{◌≡◌, ◌+◌, ◌++◌, drop}
use Rattle.flat_registers.specs.Places.{plain_places, told_regs}
use Rattle.flat_registers.proofs.places.add_nets.Given as goal

abbrev pub invariant-loop-place : goal.invariant-loop-place
invariant-loop-place l =
    plain_places l.out ++ told_regs l.names l.initials (l.first + l.place) (drop l.place l.nets)
    ≡ plain_places l.initial.out ++ told_regs l.names l.initials l.first l.nets
