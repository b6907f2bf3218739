use Rattle.std.proofs.Common.{◌≡◌, ◌≤◌, drop, length}
use Rattle.net_design.proofs.InitialLaws.{numbers_from}
use Rattle.net_design.proofs.initial.initial_numbers.Given as goal

abbrev pub invariant-registers : goal.invariant-registers
invariant-registers l = record {
  same : l.numbers ≡ numbers_from (drop l.i l.registers) 0 l.design.nets;
  inside : l.i ≤ length l.registers;
}

abbrev pub decreases-registers : goal.decreases-registers
decreases-registers l = l.i
