-- Numbers side by side.
use Rattle.std.proofs.Common.{◌≡◌, ℕ, ◌*◌, ◌/◌, ◌%◌, ◌^◌, ◌<◌, ◌≤◌, ◌==◌, ◌↔◌, true, IsTrue, bit_and, ⊎_elim, ap, arith}
use Rattle.std.specs.Int.{bit_at}
use Rattle.std.proofs.Math.Nat.{div-eq_of_lt}
use Rattle.std.proofs.lemmas.Bool.{cases_lt, eqb-true, eq-eqb}
use Rattle.std.proofs.lemmas.Nat.{pow_pos, mod_below, shr_split}
use Rattle.std.proofs.lemmas.Nat.Bits.{bit_at_and, bit_at-lt, same_from_bits}
use Rattle.net_design.specs.vidi_bits.Number.{has}

pub below_power : (n w : ℕ) → IsTrue (n / 2 ^ w == 0) ↔ (n < 2 ^ w)
below_power n w = (
  (λ h. let e : n / 2 ^ w ≡ 0 = eqb-true _ _ h in let s = shr_split n w in let m : n % 2 ^ w < 2 ^ w = mod_below n (2 ^ w) (pow_pos w) in
      let z : n / 2 ^ w * 2 ^ w ≡ 0 * 2 ^ w = ap (λ a. a * 2 ^ w) e in omega arith),
  (λ l. eq-eqb _ _ (div-eq_of_lt l)),
)

-- two numbers agree under a mask exactly where their bits do
mask_bits : (x y m : ℕ) → bit_and x m ≡ bit_and y m → (k : ℕ) → has m k ≡ true → bit_at x k ≡ bit_at y k
mask_bits x y m h k t =
    let one : bit_at m k ≡ 1 = eqb-true _ _ t in
    let a = bit_at_and x m k in
    let b = bit_at_and y m k in
    let e : bit_at (bit_and x m) k ≡ bit_at (bit_and y m) k = ap (λ n. bit_at n k) h in
    let la = bit_at-lt x k in
    let lb = bit_at-lt y k in
    omega arith

same_bit : (x y m k : ℕ) → (has m k ≡ true → bit_at x k ≡ bit_at y k) → bit_at (bit_and x m) k ≡ bit_at (bit_and y m) k
same_bit x y m k h =
    let a = bit_at_and x m k in
    let b = bit_at_and y m k in
    let l = bit_at-lt m k in
    ⊎_elim
    (λ (z : bit_at m k < 1). omega arith)
    (λ (o : 1 ≤ bit_at m k). let one : bit_at m k ≡ 1 = omega arith in let e = h (eq-eqb _ _ one) in omega arith)
    (cases_lt (bit_at m k) 1)

pub mask_same : (x y m : ℕ) → IsTrue (bit_and x m == bit_and y m) ↔ ((k : ℕ) → has m k ≡ true → bit_at x k ≡ bit_at y k)
mask_same x y m = (
  (λ h. mask_bits x y m (eqb-true _ _ h)),
  (λ h. eq-eqb _ _ (same_from_bits _ _ (λ k. same_bit x y m k (h k)))),
)
