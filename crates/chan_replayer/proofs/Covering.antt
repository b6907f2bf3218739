-- The channels whose clocks are covered, place by place.
use Rattle.std.proofs.Common.{◌≡◌, ℕ, ◌-◌, ◌^◌, ◌<◌, ◌≤◌, true, false, List, get_or, max, min, bit_and, bit_or}
use Rattle.std.proofs.Common.{ap, sym, subst, ◌∙◌, arith, ⊎_elim}
use Rattle.std.specs.Prelude.{◌↔◌}
use Rattle.std.specs.Int.{bit_at}
use Rattle.std.proofs.lemmas.Bool.{cases_Bool, cases_eq, cases_lt}
use Rattle.std.proofs.lemmas.Nat.{and_le_l}
use Rattle.std.proofs.lemmas.Nat.Bits.{bit_at_and, bit_at_or, bit_at-lt, bit_at-zero, bit_at_above}
use Rattle.vec_clock.specs.vidi_bits.Number.{has}
use Rattle.vec_clock.specs.trace_model.Clock.{Covers}
use Rattle.vec_clock.proofs.trace_model_lemmas.MaskLemmas.{bit-from-has, bit_at-without, has-from-bit, no-bit-from-has}

-- Of the channels of `which`, those of `left` are still to be looked at; of the others the mask names those that are.
pub record AreCovered (is : ℕ → Type 0) (which left mask : ℕ) : Type 0 where
  pub small : left < 2 ^ 128
  pub within : (d : ℕ) → bit_at left d ≤ bit_at which d
  pub each : (d : ℕ) → (has mask d ≡ true) ↔ ((bit_at left d ≡ 0) × (has which d ≡ true) × is d)

pub covered-none : (is : ℕ → Type 0) (which : ℕ) → which < 2 ^ 128 → AreCovered is which which 0
covered-none is which small = record {
  small = small;
  within = λ d. omega arith;
  each = λ d. (
    λ up. absurd (let o = bit-from-has 0 d up in let z = bit_at-zero d in omega (arith, o, z)),
    λ no. absurd (let o = bit-from-has which d no.1 in let z = no.0 in omega (arith, o, z)),
  );
}

pub covered-all : (is : ℕ → Type 0) (which left mask : ℕ) → left ≡ 0 → AreCovered is which left mask
    → (d : ℕ) → (has mask d ≡ true) ↔ ((has which d ≡ true) × is d)
covered-all is which left mask none are d = (
  λ up. (let e = (are.each d).0 up in (e.1, e.2)),
  λ both. (are.each d).1 (ap (λ m. bit_at m d) none ∙ bit_at-zero d, both.0, both.1),
)

-- the channels at one place are looked at, of which channel c is one
module _ (is : ℕ → Type 0) (which left mask c together : ℕ) (are : AreCovered is which left mask) (named : bit_at left c ≡ 1)
    (own : has together c ≡ true) (small : together < 2 ^ 128) (same : (d : ℕ) → has together d ≡ true → is d ↔ is c) where
  rest : ℕ
  rest = bit_and left (2 ^ 128 - 1 - together)

  rest-bit : (d : ℕ) → bit_at rest d ≡ bit_at left d - bit_at together d
  unfolding rest
  rest-bit d = bit_at-without left together are.small small d

  pub rest-less : bit_and left (2 ^ 128 - 1 - together) < left
  unfolding rest
  rest-less =
      let most = and_le_l left (2 ^ 128 - 1 - together) in
      let one = bit-from-has together c own in
      let here = rest-bit c in
      ⊎_elim
      (λ (l : rest < left). l)
      (λ (l : left ≤ rest). let e : rest ≡ left = omega (arith, l, most) in
      let b = ap (λ m. bit_at m c) e in absurd (omega (arith, b, here, one, named)))
      (cases_lt rest left)

  rest-small : rest < 2 ^ 128
  unfolding rest
  rest-small = let most = and_le_l left (2 ^ 128 - 1 - together) in let l = are.small in omega (arith, most, l)

  rest-within : (d : ℕ) → bit_at rest d ≤ bit_at which d
  rest-within d = let w = are.within d in let r = rest-bit d in omega (arith, w, r)

  -- a channel that was left and isn't any more is there
  at-place : (d : ℕ) → bit_at rest d ≡ 0 → bit_at left d ≡ 1 → has together d ≡ true
  at-place d z o = has-from-bit together d (let r = rest-bit d in let l = bit_at-lt together d in omega (arith, z, o, r, l))

  not-left : (d : ℕ) → bit_at left d ≡ 0 → bit_at rest d ≡ 0
  not-left d z = let r = rest-bit d in omega (arith, z, r)

  added-bit : (d : ℕ) → bit_at (bit_or mask (bit_and left together)) d ≡ max (bit_at mask d) (min (bit_at left d) (bit_at together d))
  added-bit d = bit_at_or mask (bit_and left together) d ∙ ap (max (bit_at mask d)) (bit_at_and left together d)

  pub covered-place : is c → AreCovered is which (bit_and left (2 ^ 128 - 1 - together)) (bit_or mask (bit_and left together))
  unfolding rest
  covered-place there = record {
    small = rest-small;
    within = rest-within;
    each = λ d. (
      λ up. ⊎_elim
          (λ (old : has mask d ≡ true). (let e = (are.each d).0 old in (not-left d e.0, e.1, e.2)))
          (λ (new : has mask d ≡ false).
          let o = bit-from-has (bit_or mask (bit_and left together)) d up in
          let z = no-bit-from-has mask d new in
          let a = added-bit d in
          let l = bit_at-lt left d in
          let t = bit_at-lt together d in
          let at : has together d ≡ true = has-from-bit together d (omega (arith, o, z, a, l, t)) in
          let was : bit_at left d ≡ 1 = omega (arith, o, z, a, l, t) in
          let r = rest-bit d in
          let one = bit-from-has together d at in
          let w = are.within d in
          let n = bit_at-lt which d in
          (omega (arith, r, one, was), has-from-bit which d (omega (arith, was, w, n)), (same d at).1 there))
          (cases_Bool (has mask d)),
      λ no. ⊎_elim
          (λ (was : bit_at left d ≡ 1).
          let one = bit-from-has together d (at-place d no.0 was) in
          let a = added-bit d in
          let m = bit_at-lt mask d in
          has-from-bit (bit_or mask (bit_and left together)) d (omega (arith, was, one, a, m)))
          (λ (none : bit_at left d ≡ 1 → ⊥).
          let l = bit_at-lt left d in
          let z : bit_at left d ≡ 0 = omega (arith, none, l) in
          let old = bit-from-has mask d ((are.each d).1 (z, no.1, no.2)) in
          let a = added-bit d in
          has-from-bit (bit_or mask (bit_and left together)) d (omega (arith, old, a, z)))
          (cases_eq (bit_at left d) 1),
    );
  }

  pub covered-not : (is c → ⊥) → AreCovered is which (bit_and left (2 ^ 128 - 1 - together)) mask
  unfolding rest
  covered-not not-there = record {
    small = rest-small;
    within = rest-within;
    each = λ d. (
      λ up. (let e = (are.each d).0 up in (not-left d e.0, e.1, e.2)),
      λ no. ⊎_elim
          (λ (was : bit_at left d ≡ 1). absurd (not-there ((same d (at-place d no.0 was)).0 no.2)))
          (λ (none : bit_at left d ≡ 1 → ⊥).
          let l = bit_at-lt left d in
          let z : bit_at left d ≡ 0 = omega (arith, none, l) in
          (are.each d).1 (z, no.1, no.2))
          (cases_eq (bit_at left d) 1),
    );
  }

-- a channel that is left is there
pub left-there : (is : ℕ → Type 0) (which left mask n c : ℕ) → which < 2 ^ n → AreCovered is which left mask → bit_at left c ≡ 1 → c < n
left-there is which left mask n c small are named = ⊎_elim
    (λ (l : c < n). l)
    (λ (l : n ≤ c). absurd (let z = bit_at_above which n c small l in let w = are.within c in omega (arith, z, w, named)))
    (cases_lt c n)

-- channels with the same clock are covered together
pub same-covers : (n : ℕ) (have : ℕ → ℕ) (a b : List ℕ) → a ≡ b
    → Covers n have (λ d. get_or a d 0) ↔ Covers n have (λ d. get_or b d 0)
same-covers n have a b e = (
  λ (u : Covers n have (λ d. get_or a d 0)). subst (λ (xs : List ℕ). Covers n have (λ d. get_or xs d 0)) e u,
  λ (u : Covers n have (λ d. get_or b d 0)). subst (λ (xs : List ℕ). Covers n have (λ d. get_or xs d 0)) (sym e) u,
)
