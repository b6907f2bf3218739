use Rattle.std.proofs.Common.{ℕ, ◌≡◌, ◌<◌, ◌≤◌, true, false, get_or, length}
use Rattle.vec_clock.proofs.clock.are_covered.Given as goal

abbrev pub invariant-loop-c : goal.invariant-loop-c
invariant-loop-c l = record {
  all : l.short ≡ false → (k : ℕ) → k < l.c → get_or l.theirs k 0 ≤ get_or l.mine k 0;
  some : l.short ≡ true → (k : ℕ) × (k < length l.mine) × (get_or l.mine k 0 < get_or l.theirs k 0);
}
