-- Arithmetic modulo 2 to the power of a width of at most 128, by way of numbers of 128 bits.
use Rattle.std.proofs.Common.{◌≡◌, ℕ, ◌+◌, ◌-◌, ◌*◌, ◌/◌, ◌%◌, ◌^◌, ◌<◌, ◌≤◌, bit_or, sym, arith}
use Rattle.std.proofs.Math.Nat.{pow-le-pow_right, div-eq_of_lt, mul-mod_left, add-mul-mod_self_right, mul-le-mul_left}
use Rattle.std.proofs.Math.Pow.{mod-mod-pow}
use Rattle.std.proofs.lemmas.Nat.{pow_pos, pow-add, shr_split, shr_below, shl_whole, or_shifted, mod_below}

-- the rest of the division by a longer power has the same low bits
pub mod-low : (n w : ℕ) → w ≤ 128 → n % 2 ^ 128 % 2 ^ w ≡ n % 2 ^ w
mod-low n w l =
    let whole : (128 - w) + w ≡ 128 = omega arith in
    rw whole at (mod-mod-pow n (128 - w) w)

-- 2 to the power of 128 in pieces of w bits
pub pow-pieces : (w : ℕ) → w ≤ 128 → 2 ^ (128 - w) * 2 ^ w ≡ 2 ^ 128
pow-pieces w l =
    let whole : (128 - w) + w ≡ 128 = omega arith in
    sym (rw whole at (pow-add 2 (128 - w) w))

-- a number of 128 bits, divided by a power from 2 ^ 128 on
pub div-past : (n k : ℕ) → n < 2 ^ 128 → 128 ≤ k → n / 2 ^ k ≡ 0
div-past n k l h = let p : 2 ^ 128 ≤ 2 ^ k = pow-le-pow_right (omega arith) h in div-eq_of_lt (omega arith)

-- shifts by the whole width
pub shifted-out_left : (a n w : ℕ) → w ≤ n → a * 2 ^ n % 2 ^ w ≡ 0
shifted-out_left a n w l =
    let split : (n - w) + w ≡ n = omega arith in
    let pieces : 2 ^ n ≡ 2 ^ (n - w) * 2 ^ w = rw split at (pow-add 2 (n - w) w) in
    let moved : a * 2 ^ n ≡ a * 2 ^ (n - w) * 2 ^ w = rw pieces (omega arith) in
    rw moved (mul-mod_left (a * 2 ^ (n - w)) (2 ^ w))

pub shifted-out_right : (a n w : ℕ) → a < 2 ^ w → w ≤ n → a / 2 ^ n ≡ 0
shifted-out_right a n w l h = let p : 2 ^ w ≤ 2 ^ n = pow-le-pow_right (omega arith) h in div-eq_of_lt (omega arith)

-- with q < n, n pieces less q of them and a rest are a piece less the rest, and pieces
sub-pieces : (a n piece whole b q rest : ℕ) → n * piece ≡ whole → q * piece + rest ≡ b → rest < piece → q < n → (a + (whole - b)) % piece
    ≡ (a + (piece - rest)) % piece
sub-pieces a n piece whole b q rest pieces split less high =
    let d = n - q - 1 in
    let e : n ≡ q + d + 1 = omega arith in
    let products : (q + d + 1) * piece ≡ whole = rw e at pieces in
    let sum : a + (whole - b) ≡ (a + (piece - rest)) + d * piece = omega arith in
    rw sum (add-mul-mod_self_right (a + (piece - rest)) d piece)

-- a difference that wraps at 128 bits
pub sub-low : (a b w : ℕ) → w ≤ 128 → b < 2 ^ 128 → (a + (2 ^ 128 - b)) % 2 ^ w ≡ (a + (2 ^ w - b % 2 ^ w)) % 2 ^ w
sub-low a b w l lb =
    let pieces = pow-pieces w l in
    let split = shr_split b w in
    let rest = mod_below b (2 ^ w) (pow_pos w) in
    let whole : (128 - w) + w ≡ 128 = omega arith in
    let high : b / 2 ^ w < 2 ^ (128 - w) = shr_below b (128 - w) w (rw whole lb) in
    sub-pieces a (2 ^ (128 - w)) (2 ^ w) (2 ^ 128) b (b / 2 ^ w) (b % 2 ^ w) pieces split rest high

-- two numbers side by side
pub side_by_side : (high low w : ℕ) → w ≤ 128 → high < 2 ^ (128 - w) → bit_or (high * 2 ^ w % 2 ^ 128) (low % 2 ^ w) ≡ high * 2 ^ w
    + low % 2 ^ w
side_by_side high low w l h =
    rw (shl_whole high (128 - w) w 128 h (omega arith)) (or_shifted high w (low % 2 ^ w) (mod_below low (2 ^ w) (pow_pos w)))

pub shifted_grows : (base n d : ℕ) → 1 ≤ base → n ≤ n * base + d
shifted_grows base n d h = omega (arith, mul-le-mul_left n h)
