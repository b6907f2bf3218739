use Rattle.std.proofs.Common.{ℕ, ◌<◌}
use Rattle.net_lawful.specs.Driven.{IsNetDriven}
use Rattle.net_lawful.proofs.driven.nets_driven.Given as goal

abbrev pub invariant-loop-m : goal.invariant-loop-m
invariant-loop-m l = (j : ℕ) → j < l.m → IsNetDriven l.design j
