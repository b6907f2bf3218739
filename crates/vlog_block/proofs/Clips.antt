-- Bits of a vector from a place on, as far as it has them.
use Rattle.std.proofs.Common.{◌≡◌, ℕ, ◌+◌, ◌-◌, ◌/◌, ◌%◌, ◌^◌, ◌<◌, ◌≤◌, ◌⊎◌, inl, inr, min, ap, sym, ◌∙◌, arith}
use Rattle.std.proofs.Math.Pow.{mod-mod-pow, pow_mono}
use Rattle.std.proofs.Math.Nat.{div-one, mod-lt, mod-eq_of_lt, div-eq_of_lt}
use Rattle.std.proofs.lemmas.Nat.{mod-pow-add, div-mul-add, pow_pos}
use Rattle.std.proofs.lemmas.Bool.{cases_lt}
use Rattle.vlog_size.specs.vidi_bits.Number.{part_of}

-- the bits of x from bit i on, of its j + i lowest bits
shifted : (x j i : ℕ) → x % 2 ^ (j + i) / 2 ^ i ≡ x / 2 ^ i % 2 ^ j
shifted x j i =
    ap (λ y. y / 2 ^ i) (mod-pow-add x j i) ∙ div-mul-add (x / 2 ^ i % 2 ^ j) (2 ^ i) (x % 2 ^ i) (mod-lt x (pow_pos i))

all_bits : (x : ℕ) → x / 2 ^ 0 ≡ x
all_bits x = div-one x

shorter : (y j k w : ℕ) → j ≡ k + w → y % 2 ^ w ≡ y % 2 ^ j % 2 ^ w
shorter y j k w h = rw h (sym (mod-mod-pow y k w))

longer : (y j w : ℕ) → j ≤ w → y % 2 ^ j ≡ y % 2 ^ j % 2 ^ w
longer y j w h =
    let below : y % 2 ^ j < 2 ^ j = mod-lt y (pow_pos j) in
    let more : 2 ^ j ≤ 2 ^ w = pow_mono h in
    let fits : y % 2 ^ j < 2 ^ w = omega (arith, below, more) in
    sym (mod-eq_of_lt fits)

cut : (y j w : ℕ) → (w < j) ⊎ (j ≤ w) → y % 2 ^ min w j ≡ y % 2 ^ j % 2 ^ w
cut y j w (inl h) =
    let m : min w j ≡ w = omega (arith, h) in
    let e : j ≡ (j - w) + w = omega (arith, h) in
    ap (λ k. y % 2 ^ k) m ∙ shorter y j (j - w) w e
cut y j w (inr h) =
    let m : min w j ≡ j = omega (arith, h) in
    ap (λ k. y % 2 ^ k) m ∙ longer y j w h

pub part_inside : (x n i w : ℕ) → i < n → part_of x i (min w (n - i)) ≡ part_of (part_of x 0 n) i w
part_inside x n i w h =
    let e : n ≡ (n - i) + i = omega (arith, h) in
    let whole : x / 2 ^ 0 % 2 ^ n / 2 ^ i ≡ x / 2 ^ i % 2 ^ (n - i) =
    ap (λ y. y % 2 ^ n / 2 ^ i) (all_bits x) ∙ (ap (λ k. x % 2 ^ k / 2 ^ i) e ∙ shifted x (n - i) i) in
    cut (x / 2 ^ i) (n - i) w (cases_lt w (n - i)) ∙ sym (ap (λ y. y % 2 ^ w) whole)

pub part_past : (x n i w : ℕ) → n ≤ i → 0 ≡ part_of (part_of x 0 n) i w
part_past x n i w h =
    let below : x / 2 ^ 0 % 2 ^ n < 2 ^ n = mod-lt (x / 2 ^ 0) (pow_pos n) in
    let more : 2 ^ n ≤ 2 ^ i = pow_mono h in
    let fits : x / 2 ^ 0 % 2 ^ n < 2 ^ i = omega (arith, below, more) in
    let none : x / 2 ^ 0 % 2 ^ n / 2 ^ i ≡ 0 = div-eq_of_lt fits in
    let left : 0 % 2 ^ w ≡ 0 = mod-eq_of_lt (pow_pos w) in
    sym (ap (λ y. y % 2 ^ w) none ∙ left)
