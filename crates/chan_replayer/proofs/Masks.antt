-- Masks with a bit put in or taken out, and what two masks have in common.
use Rattle.std.proofs.Common.{◌≡◌, ◌≢◌, ◌&&◌, ◌==◌, ℕ, ◌*◌, ◌%◌, ◌^◌, ◌<◌, ◌≤◌, ◌-◌, Bool, true, false, not, cond, min, bit_and, bit_or, ap, sym, ◌∙◌, arith, ⊎_elim}
use Rattle.std.specs.Int.{bit_at, bit_not, w128}
use Rattle.std.proofs.lemmas.Bool.{cases_lt}
use Rattle.std.proofs.lemmas.Nat.{and_le_l}
use Rattle.std.proofs.lemmas.Nat.Bits.{bit_at_and, bit_at_set_same, bit_at_set_other, bit_at_clear_same, bit_at_clear_other, bit_at_above}
use Rattle.vec_clock.specs.vidi_bits.Number.{has}
use Rattle.vec_clock.proofs.vidi_bits_lemmas.BitLemmas.{hasn't-from-bit}
use Rattle.vec_clock.proofs.trace_model_lemmas.MaskLemmas.{bit_at-without, cond-has, has-from-bit}

pub bit-put : (mask c : ℕ) → c < 128 → has (bit_or mask (1 * 2 ^ c % 2 ^ 128)) c ≡ true
bit-put mask c l = has-from-bit (bit_or mask (1 * 2 ^ c % 2 ^ 128)) c (bit_at_set_same w128 mask c l)

pub bit-put_other : (mask c d : ℕ) → c < 128 → d ≢ c → has (bit_or mask (1 * 2 ^ c % 2 ^ 128)) d ≡ has mask d
bit-put_other mask c d l ne = ap (λ b. b == 1) (bit_at_set_other w128 mask c l d ne)

pub bit-cut : (mask c : ℕ) → c < 128 → has (bit_and mask (bit_not w128 (1 * 2 ^ c % 2 ^ 128))) c ≡ false
bit-cut mask c l = hasn't-from-bit (bit_and mask (bit_not w128 (1 * 2 ^ c % 2 ^ 128))) c (bit_at_clear_same w128 mask c l)

pub bit-cut_other : (mask c d : ℕ) → mask < 2 ^ 128 → c < 128 → d ≢ c
    → has (bit_and mask (bit_not w128 (1 * 2 ^ c % 2 ^ 128))) d ≡ has mask d
bit-cut_other mask c d small l ne =
    let others = bit_and mask (bit_not w128 (1 * 2 ^ c % 2 ^ 128)) in
    let most : others ≤ mask = and_le_l mask (bit_not w128 (1 * 2 ^ c % 2 ^ 128)) in
    ap (λ b. b == 1) (⊎_elim
    (λ (m : d < 128). bit_at_clear_other w128 mask c l d m ne)
    (λ (m : 128 ≤ d). bit_at_above others 128 d (omega (arith, most, small)) m ∙ sym (bit_at_above mask 128 d small m))
    (cases_lt d 128))

-- ---- what two masks name
both-flag : (p q : Bool) (x y : ℕ) → x ≡ cond p 1 0 → y ≡ cond q 1 0 → (min x y == 1) ≡ (p && q)
both-flag true true x y a b = rw (a, b)
both-flag true false x y a b = rw (a, b)
both-flag false true x y a b = rw (a, b)
both-flag false false x y a b = rw (a, b)

without-flag : (p q : Bool) (x y : ℕ) → x ≡ cond p 1 0 → y ≡ cond q 1 0 → (x - y == 1) ≡ (p && not q)
without-flag true true x y a b = rw (a, b)
without-flag true false x y a b = rw (a, b)
without-flag false true x y a b = rw (a, b)
without-flag false false x y a b = rw (a, b)

pub has-and : (a b c : ℕ) → has (bit_and a b) c ≡ (has a c && has b c)
has-and a b c = ap (λ x. x == 1) (bit_at_and a b c) ∙ both-flag (has a c) (has b c) (bit_at a c) (bit_at b c) (sym (cond-has a c)) (sym (cond-has b c))

pub has-without : (a b c : ℕ) → a < 2 ^ 128 → b < 2 ^ 128 → has (bit_and a (2 ^ 128 - 1 - b)) c ≡ (has a c && not (has b c))
has-without a b c la lb = ap (λ x. x == 1) (bit_at-without a b la lb c)
    ∙ without-flag (has a c) (has b c) (bit_at a c) (bit_at b c) (sym (cond-has a c)) (sym (cond-has b c))
