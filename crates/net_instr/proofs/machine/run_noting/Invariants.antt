use Rattle.std.proofs.Common.{◌≡◌, ◌-◌, ◌≤◌, false, drop, take, length}
use Rattle.net_instr.specs.Machine.{exec}
use Rattle.net_instr.proofs.machine.run_noting.Given as goal

abbrev pub invariant-go : goal.invariant-go
invariant-go l = record {
  same : exec (drop l.at l.code) 0 l.slots ≡ exec l.code 0 l.initial.slots;
  inside : l.at ≤ length l.code;
  kept : l.moved ≡ false → take l.limit l.slots ≡ take l.limit l.initial.slots;
}

abbrev pub decreases-go : goal.decreases-go
decreases-go l = length l.code - l.at
