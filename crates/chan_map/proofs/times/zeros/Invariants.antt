use Rattle.std.proofs.Common.{◌≡◌, ℕ, length, slice_index}
use Rattle.chan_map.proofs.times.zeros.Given as goal

abbrev pub invariant-loop : goal.invariant-loop
invariant-loop l = record {
  long : length l.counts ≡ l.counter;
  zero : (k : ℕ) → slice_index l.counts k ≡ 0;
}
