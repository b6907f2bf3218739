use Rattle.std.proofs.Common.{ℕ, ◌<◌}
use Rattle.net_sim.specs.Names.{IsCalled}
use Rattle.net_sim.proofs.names.first_called.Given as goal

abbrev pub invariant-loop-m : goal.invariant-loop-m
invariant-loop-m l = (k : ℕ) → k < l.m → IsCalled l.instances l.nets l.name k → ⊥
