use Rattle.std.proofs.Common.{◌≡◌, ◌++◌, drop}
use Rattle.net_design.specs.Settled.{pins_of}
use Rattle.net_reference.proofs.reference.pins.Given as goal

abbrev pub invariant-loop-k : goal.invariant-loop-k
invariant-loop-k l = l.out ++ pins_of l.direction (drop l.k l.ports) (drop l.k l.nets) ≡ pins_of l.direction l.ports l.nets
