use Rattle.std.proofs.Common.{◌≡◌, ℕ, ◌+◌, ◌<◌, ◌≤◌, length, slice_index}
use Rattle.net_sim.proofs.slots.show_words.Given as goal

abbrev pub invariant-loop-i : goal.invariant-loop-i
invariant-loop-i l = record {
  words : (k : ℕ) → l.first ≤ k → k < l.i → slice_index l.slots k ≡ slice_index l.initial.slots (l.span + k);
  nets : (k : ℕ) → k < l.first → slice_index l.slots k ≡ slice_index l.initial.slots k;
  behind : (k : ℕ) → l.span ≤ k → slice_index l.slots k ≡ slice_index l.initial.slots k;
  long : length l.slots ≡ length l.initial.slots;
}
