-- Numbers shifted left in whole numbers.
use Rattle.std.proofs.Common.{◌≡◌, ℕ, ◌*◌, ◌%◌, ◌^◌, ◌<◌, ◌≤◌, arith, None, Some}
use Rattle.std.proofs.Math.Nat.{mul-le-mul_left, mul-le-mul_right, mod-eq_of_lt}
use Rattle.std.proofs.Math.Pow.{pow_mono}
use Rattle.vlog_size.specs.Operators.{in_range}

pub shift_none : (a n : ℕ) → a ≡ 0 → Some 0 ≡ in_range (a * 2 ^ n)
shift_none a n h = rw h (grind arith)

past_limit : (m : ℕ) → 2 ^ 31 ≤ m → None ≡ in_range m
past_limit m h = grind arith

times_more : (a p : ℕ) → 1 ≤ a → p ≤ a * p
times_more a p h = grind arith

pub shift_past : (a n : ℕ) → 0 < a → 31 ≤ n → None ≡ in_range (a * 2 ^ n)
shift_past a n some far =
    let high : 2 ^ 31 ≤ 2 ^ n = pow_mono far in
    past_limit (a * 2 ^ n) (omega (arith, high, times_more a (2 ^ n) (omega arith)))

product_le : (a p m q : ℕ) → a ≤ m → p ≤ q → a * p ≤ m * q
product_le a p m q h k = omega (arith, mul-le-mul_left a k, mul-le-mul_right q h)

pub shift_whole : (a n : ℕ) → a < 2 ^ 32 → n < 31 → a * 2 ^ n % 2 ^ 128 ≡ a * 2 ^ n
shift_whole a n small near =
    let high : 2 ^ n ≤ 2 ^ 31 = pow_mono {i = n} {j = 31} (omega arith) in
    let below : a * 2 ^ n ≤ 2 ^ 32 * 2 ^ 31 = product_le a (2 ^ n) (2 ^ 32) (2 ^ 31) (omega arith) high in
    mod-eq_of_lt (omega arith)
