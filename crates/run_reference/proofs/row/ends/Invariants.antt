use Rattle.std.proofs.Common.{◌≡◌}
use Rattle.run_model.specs.Building.{ends_of}
use Rattle.run_reference.proofs.row.ends.Given as goal

abbrev pub invariant-loop-c : goal.invariant-loop-c
invariant-loop-c l = l.mask ≡ ends_of l.c l.valids l.gates l.readies
