use Rattle.std.proofs.Common.{◌≡◌, length, replicate, take}
use Rattle.net_sim.proofs.start.clear.Given as goal

abbrev pub invariant-loop-i : goal.invariant-loop-i
invariant-loop-i l = record { same : take l.i l.numbers ≡ replicate l.i 0; long : length l.numbers ≡ length l.initial.numbers }
