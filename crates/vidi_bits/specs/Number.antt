-- Whole numbers as vectors of bits, bit 0 the lowest (IEEE 1364-2005, 5.1; only the values 0 and 1 in this project's profile).
use Rattle.std.specs.Prelude.{ℕ, zero, suc, ◌+◌, ◌-◌, ◌*◌, ◌/◌, ◌%◌, ◌^◌, ◌≤◌, ◌==◌, Bool, if◌then◌else◌}
use Rattle.std.specs.Int.{bit_at}

-- a width of this profile
abbrev pub IsWidth : ℕ → Type 0
IsWidth w = (1 ≤ w) × (w ≤ 128)

-- bit k of n is 1
abbrev pub has : ℕ → ℕ → Bool
has n k = bit_at n k == 1

-- the w bits of x from bit low on; past its last bit x has zeros
abbrev pub part_of : ℕ → ℕ → ℕ → ℕ
part_of x low w = x / 2 ^ low % 2 ^ w

-- x with its w bits from bit low on replaced by the low bits of y; bits past 127 are dropped
abbrev pub put_of : ℕ → ℕ → ℕ → ℕ → ℕ
put_of x low w y = ((x / 2 ^ (low + w) * 2 ^ w + y % 2 ^ w) * 2 ^ low + x % 2 ^ low) % 2 ^ 128

-- a less b, modulo 2 to the power of w
abbrev pub difference : ℕ → ℕ → ℕ → ℕ
difference a b w = (a + (2 ^ w - b % 2 ^ w)) % 2 ^ w

-- each of the low w bits of a turned
abbrev pub complement : ℕ → ℕ → ℕ
complement a w = 2 ^ w - 1 - a % 2 ^ w

-- the low bits of two numbers, the high ones above the low ones
abbrev pub side_by_side : ℕ → ℕ → ℕ → ℕ → ℕ
side_by_side high low high_width low_width = high % 2 ^ high_width * 2 ^ low_width + low % 2 ^ low_width

-- n times the w bits of x, side by side
abbrev pub repeated : ℕ → ℕ → ℕ → ℕ
repeated zero x w = 0
repeated (suc n) x w = repeated n x w * 2 ^ w + x % 2 ^ w

-- true is 1, false is 0
abbrev pub truth : Bool → ℕ
truth b = if b then 1 else 0
