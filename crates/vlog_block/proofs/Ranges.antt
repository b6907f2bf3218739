-- Bits of a net from a constant place on.
use Rattle.std.proofs.Common.{◌≡◌, ℕ, ◌+◌, ◌-◌, ◌<◌, ◌≤◌, min, Bool, true, false, ◌&&◌, nat_le, nat_lt, refl, arith}

least_range : (n i w k : ℕ) → i < n
    → (nat_le i k && nat_lt k (i + min w (n - i))) ≡ ((nat_le 0 k && nat_lt k (0 + n)) && (nat_le i k && nat_lt k (i + w)))
least_range n i w k h = grind arith

pub range_inside : (b : Bool) (n i w k : ℕ) → i < n
    → (b && (nat_le i k && nat_lt k (i + min w (n - i)))) ≡ ((b && (nat_le 0 k && nat_lt k (0 + n))) && (nat_le i k && nat_lt k (i + w)))
range_inside true n i w k h = least_range n i w k h
range_inside false n i w k h = refl

no_range : (n i w k : ℕ) → n ≤ i → false ≡ ((nat_le 0 k && nat_lt k (0 + n)) && (nat_le i k && nat_lt k (i + w)))
no_range n i w k h = grind arith

pub range_past : (b : Bool) (n i w k : ℕ) → n ≤ i → false ≡ ((b && (nat_le 0 k && nat_lt k (0 + n))) && (nat_le i k && nat_lt k (i + w)))
range_past true n i w k h = no_range n i w k h
range_past false n i w k h = refl

pub ruleset ranges = (range_inside, range_past)
