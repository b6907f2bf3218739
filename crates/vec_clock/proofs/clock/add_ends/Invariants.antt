use Rattle.std.proofs.Common.{◌≡◌, ℕ, ◌+◌, ◌*◌, ◌≤◌, length, get_or}
use Rattle.std.specs.Int.{bit_at}
use Rattle.vec_clock.proofs.clock.add_ends.Given as goal

abbrev pub invariant-ends : goal.invariant-ends
invariant-ends l = record {
  each : (c : ℕ) → get_or l.counts c 0 + l.times * bit_at l.left c ≡ get_or l.initial.counts c 0 + l.times * bit_at l.ends c;
  within : (c : ℕ) → bit_at l.left c ≤ bit_at l.ends c;
}

abbrev pub decreases-ends : goal.decreases-ends
decreases-ends l = l.left
