use Rattle.std.proofs.Common.{◌≡◌, length, take}
use Rattle.net_sim.proofs.run.copy_numbers.Given as goal

abbrev pub invariant-loop-i : goal.invariant-loop-i
invariant-loop-i l = record { same : take l.i l.to ≡ take l.i l.from; long : length l.to ≡ length l.from }
