use Rattle.std.proofs.Common.{◌≡◌, ℕ, ◌+◌, ◌<◌, ◌≤◌, get_or, length, slice_index}
use Rattle.net_sim.proofs.slots.show_nets.Given as goal

abbrev pub invariant-loop-net : goal.invariant-loop-net
invariant-loop-net l = record {
  nets : (k d : ℕ) → k < l.net-index → slice_index l.slots (get_or l.nets k d) ≡ slice_index l.initial.slots (l.span + get_or l.nets k d);
  behind : (k : ℕ) → l.span ≤ k → slice_index l.slots k ≡ slice_index l.initial.slots k;
  long : length l.slots ≡ length l.initial.slots;
}
