-- Two masks have a bit in common exactly where some bit is in both.
use Rattle.std.proofs.Common.{◌≡◌, ◌≢◌, ℕ, zero, suc, ◌+◌, ◌^◌, ◌<◌, ◌≤◌, ◌==◌, not, Bool, true, false, bit_and, ⊎_elim, refl, ap}
use Rattle.std.proofs.Common.{◌∙◌, min, arith}
use Rattle.std.specs.Int.{bit_at}
use Rattle.std.proofs.lemmas.Bool.{cases_lt, eqb-true, eq-eqb, not-true}
use Rattle.std.proofs.lemmas.Nat.Bits.{bit_at_and, bit_at-lt, bit_at-zero, bit_at_above}
use Rattle.vidi_bits.proofs.BitLemmas.{fits_by_bits}
use Rattle.vidi_bits.specs.Number.{has}
use Rattle.net_order.specs.Index.{meets}

below_power : (n : ℕ) → n < 2 ^ n
below_power zero = omega arith
below_power (suc n) = let h : n < 2 ^ n = below_power n in grind arith

-- a number that isn't 0 has a bit
some_bit : (w n : ℕ) → n < 2 ^ w → n ≢ 0 → (k : ℕ) × (bit_at n k ≡ 1)
some_bit zero n l z = absurd (z (omega arith))
some_bit (suc w) n l z = ⊎_elim
    (λ (none : bit_at n w < 1). some_bit w n (fits_by_bits n w (λ k g. ⊎_elim
    (λ (here : k < w + 1). let e : k ≡ w = omega arith in let zero_there : bit_at n w ≡ 0 = omega arith in ap (bit_at n) e ∙ zero_there)
    (λ (above : w + 1 ≤ k). bit_at_above n (suc w) k l (omega arith))
    (cases_lt k (w + 1)))) z)
    (λ (one : 1 ≤ bit_at n w). let small = bit_at-lt n w in (w, omega arith))
    (cases_lt (bit_at n w) 1)

to_not : (b : Bool) → (b ≡ true → ⊥) → not b ≡ true
to_not true h = absurd (h refl)
to_not false h = refl

pub meets_bit : (a b : ℕ) → meets a b ≡ true → (k : ℕ) × (has a k ≡ true) × (has b k ≡ true)
meets_bit a b h =
    let n : ℕ = bit_and a b in
    let differs : (n == 0) ≡ false = not-true (n == 0) h in
    let found = some_bit n n (below_power n) (λ z. let t = eq-eqb n 0 z in absurd cc) in
    let k = found.0 in
    let both : bit_at n k ≡ min (bit_at a k) (bit_at b k) = bit_at_and a b k in
    let one : bit_at n k ≡ 1 = found.1 in
    let la = bit_at-lt a k in
    let lb = bit_at-lt b k in
    (k, eq-eqb _ _ (omega arith), eq-eqb _ _ (omega arith))

pub bit_meets : (a b k : ℕ) → has a k ≡ true → has b k ≡ true → meets a b ≡ true
bit_meets a b k ha hb = to_not (bit_and a b == 0) (λ t.
    let none : bit_and a b ≡ 0 = eqb-true _ _ t in
    let both : bit_at (bit_and a b) k ≡ min (bit_at a k) (bit_at b k) = bit_at_and a b k in
    let zero_there : bit_at (bit_and a b) k ≡ 0 = ap (λ n. bit_at n k) none ∙ bit_at-zero k in
    let one_a : bit_at a k ≡ 1 = eqb-true _ _ ha in
    let one_b : bit_at b k ≡ 1 = eqb-true _ _ hb in
    absurd (omega arith))
