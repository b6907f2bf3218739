use Rattle.std.proofs.Common.{◌≡◌, ◌++◌, drop}
use Rattle.net_sim.specs.Places.{port_places}
use Rattle.net_sim.proofs.start.places_of.Given as goal

abbrev pub invariant-loop-k : goal.invariant-loop-k
invariant-loop-k l = l.out ++ port_places l.direction l.k (drop l.k l.ports) ≡ port_places l.direction 0 l.ports
