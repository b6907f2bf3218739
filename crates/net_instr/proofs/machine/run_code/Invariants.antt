use Rattle.std.proofs.Common.{◌≡◌, ◌-◌, ◌≤◌, drop, length}
use Rattle.net_instr.specs.Machine.{exec}
use Rattle.net_instr.proofs.machine.run_code.Given as goal

abbrev pub invariant-go : goal.invariant-go
invariant-go l = record { same : exec (drop l.at l.code) 0 l.slots ≡ exec l.code 0 l.initial.slots; inside : l.at ≤ length l.code }

abbrev pub decreases-go : goal.decreases-go
decreases-go l = length l.code - l.at
