use Rattle.std.proofs.Common.{◌≡◌, length, take, drop}
use Rattle.net_sim.proofs.slots.load_state.Given as goal

abbrev pub invariant-loop-i : goal.invariant-loop-i
invariant-loop-i l = record {
  state : take l.i (drop l.span l.slots) ≡ take l.i l.first;
  shown : take l.span l.slots ≡ take l.span l.initial.slots;
  long : length l.slots ≡ length l.initial.slots;
}
