use Rattle.std.proofs.Common.{◌≡◌, ◌++◌, map, drop}
use Rattle.run_model.specs.Pins.{tie_input}
use Rattle.run_reference.proofs.pins.push_ties.Given as goal

abbrev pub invariant-loop-tie : goal.invariant-loop-tie
invariant-loop-tie l = l.out ++ map tie_input (drop l.tie-index l.ties) ≡ l.initial.out ++ map tie_input l.ties
