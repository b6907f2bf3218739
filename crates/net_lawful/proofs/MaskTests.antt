-- Masks and sets of bits, compared by bits.
use Rattle.std.proofs.Common.{◌≡◌, ℕ, ◌*◌, ◌/◌, ◌%◌, ◌^◌, ◌<◌, ◌≤◌, ◌==◌, ◌&&◌, ◌↔◌, Bool, true, false, IsTrue, bit_and, List, All, get_or}
use Rattle.std.proofs.Common.{⊎_elim, refl, ap, sym, subst, ◌∙◌, arith}
use Rattle.std.specs.Int.{bit_at}
use Rattle.std.proofs.Math.Nat.{div-eq_of_lt}
use Rattle.std.proofs.lemmas.Bool.{cases_lt, eqb-true, eq-eqb, false_from_ne_true, and_parts, and_from}
use Rattle.std.proofs.lemmas.List.Folds.{Any-from_list_any, list_any_at}
use Rattle.std.proofs.lemmas.Nat.{pow_pos, mod_below, shr_split}
use Rattle.std.proofs.lemmas.Nat.Bits.{bit_at-lt, same_from_bits}
use Rattle.net_code.proofs.vidi_bits_lemmas.Bools.{not_both, same_test}
use Rattle.net_design.specs.declared.act.Mask.{Mask}
use Rattle.net_code.specs.vidi_bits.Number.{has}
use Rattle.net_design.specs.Bits.{named}
use Rattle.net_code.specs.declared.bit_map.BitMap.{BitMap}
use Rattle.net_code.specs.BitMap.{in_map}
use Rattle.net_code.proofs.MaskLaws.{has_and, has_zero}
use Rattle.net_lawful.specs.Masks.{MaskIs}

pub below_power : (n w : ℕ) → IsTrue (n / 2 ^ w == 0) ↔ (n < 2 ^ w)
below_power n w = (
  (λ h. let e : n / 2 ^ w ≡ 0 = eqb-true _ _ h in let s = shr_split n w in let m : n % 2 ^ w < 2 ^ w = mod_below n (2 ^ w) (pow_pos w) in
      let z : n / 2 ^ w * 2 ^ w ≡ 0 * 2 ^ w = ap (λ a. a * 2 ^ w) e in omega arith),
  (λ l. eq-eqb _ _ (div-eq_of_lt l)),
)

-- numbers that have the same bits are the same
pub by_has : (a b : ℕ) → ((k : ℕ) → has a k ≡ has b k) → a ≡ b
by_has a b same = same_from_bits a b (λ k. bit a b k (same k))
  where
    bit : (a b k : ℕ) → has a k ≡ has b k → bit_at a k ≡ bit_at b k
    bit a b k e =
        let la = bit_at-lt a k in
        let lb = bit_at-lt b k in
        ⊎_elim
        (λ (z : bit_at a k < 1). ⊎_elim
        (λ (y : bit_at b k < 1). omega arith)
        (λ (o : 1 ≤ bit_at b k). let one : bit_at b k ≡ 1 = omega arith in
        let t : bit_at a k ≡ 1 = eqb-true _ _ (e ∙ eq-eqb _ _ one) in omega arith)
        (cases_lt (bit_at b k) 1))
        (λ (o : 1 ≤ bit_at a k). let one : bit_at a k ≡ 1 = omega arith in
        let t : bit_at b k ≡ 1 = eqb-true _ _ (sym e ∙ eq-eqb _ _ one) in omega arith)
        (cases_lt (bit_at a k) 1)

pub none_common : (a b : ℕ) → IsTrue (bit_and a b == 0) ↔ ((k : ℕ) → has a k ≡ true → has b k ≡ false)
none_common a b = (
  (λ h k t. false_from_ne_true (has b k) (λ u. not_both (has (bit_and a b) k) (has_and a b k ∙ and_from (has a k) (has b k) t u)
      (ap (λ n. has n k) (eqb-true _ _ h) ∙ has_zero k))),
  (λ h. eq-eqb _ _ (by_has (bit_and a b) 0 (λ k. false_from_ne_true (has (bit_and a b) k)
      (λ t. let u = and_parts (has a k) (has b k) (sym (has_and a b k) ∙ t) in not_both (has b k) u.1 (h k u.0)) ∙ sym (has_zero k)))),
)

pub all_common : (a b : ℕ) → IsTrue (bit_and a b == a) ↔ ((k : ℕ) → has a k ≡ true → has b k ≡ true)
all_common a b = (
  (λ h k t. (and_parts (has a k) (has b k) (sym (has_and a b k) ∙ ap (λ n. has n k) (eqb-true _ _ h) ∙ t)).1),
  (λ h. eq-eqb _ _ (by_has (bit_and a b) a (λ k. same_test (has (bit_and a b) k) (has a k)
      (λ t. (and_parts (has a k) (has b k) (sym (has_and a b k) ∙ t)).0)
      (λ t. has_and a b k ∙ and_from (has a k) (has b k) t (h k t))))),
)

-- masks, each of which meets a test of its bits
module _ (set : BitMap) (b : Bool) where
  by_masks : (masks : List Mask) → All (MaskIs set b) masks → (m k : ℕ) → named masks m k ≡ true → in_map set m k ≡ b
  by_masks masks all m k h =
      let found = Any-from_list_any _ masks h in
      let x : Mask = found.1 in
      let t = and_parts _ _ found.4 in
      let here : x.net ≡ m = eqb-true _ _ t.0 in
      let same : MaskIs set b x = subst (λ (y : Mask). MaskIs set b y) found.3 (all found.0 x found.2) in
      subst (λ n. in_map set n k ≡ b) here (same k t.1)

  by_names : (masks : List Mask) → ((m k : ℕ) → named masks m k ≡ true → in_map set m k ≡ b) → All (MaskIs set b) masks
  by_names masks same i x l k h =
      let y : Mask = get_or masks i x in
      same y.net k (list_any_at (λ (z : Mask). (z.net == y.net) && has z.bits k) masks i x l (and_from _ _ (eq-eqb y.net y.net refl) h))

  pub all_named : (masks : List Mask) → All (MaskIs set b) masks ↔ ((m k : ℕ) → named masks m k ≡ true → in_map set m k ≡ b)
  all_named masks = (by_masks masks, by_names masks)
