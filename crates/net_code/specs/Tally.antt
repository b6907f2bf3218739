-- What is named at least once, and what is named at least twice, as two sets of bits.
use Rattle.std.specs.Prelude.{◌≡◌, ℕ, ◌<◌, nat_lt}
use Rattle.net_code.specs.declared.tally.Tally.{Tally}
use Rattle.net_code.specs.BitMap.{in_map}

-- a tally of so many names for each bit of each net
pub record IsTally (t : Tally) (count : ℕ → ℕ → ℕ) : Type 0 where
  pub once : (m k : ℕ) → in_map t.once m k ≡ nat_lt 0 (count m k)
  pub more : (m k : ℕ) → in_map t.more m k ≡ nat_lt 1 (count m k)

-- the same of the first 128 bits of each net
pub record IsLowTally (t : Tally) (count : ℕ → ℕ → ℕ) : Type 0 where
  pub once : (m k : ℕ) → k < 128 → in_map t.once m k ≡ nat_lt 0 (count m k)
  pub more : (m k : ℕ) → k < 128 → in_map t.more m k ≡ nat_lt 1 (count m k)

-- a tally of so many names for each number, in bit 0
pub record IsKeyTally (t : Tally) (count : ℕ → ℕ) : Type 0 where
  pub once : (m : ℕ) → in_map t.once m 0 ≡ nat_lt 0 (count m)
  pub more : (m : ℕ) → in_map t.more m 0 ≡ nat_lt 1 (count m)
