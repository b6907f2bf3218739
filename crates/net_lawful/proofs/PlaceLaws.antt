-- Places that name no bit twice.
use Rattle.std.proofs.Common.{◌≡◌, ◌≢◌, ℕ, ◌+◌, ◌<◌, ◌==◌, ◌&&◌, ◌||◌, ◌↔◌, Bool, true, false, List, [], ◌∷◌, length, get_or, drop}
use Rattle.std.proofs.Common.{refl, ap, sym, subst, ◌∙◌, arith}
use Rattle.std.specs.List.{AllByRecursion}
use Rattle.std.proofs.lemmas.Bool.{eqb-true, eq-eqb, or_right, false_from_ne_true, and_parts, and_from, or_parts, or_left, or_from}
use Rattle.std.proofs.lemmas.List.{drop_more}
use Rattle.net_code.proofs.vidi_bits_lemmas.Bools.{not_both}
use Rattle.net_design.specs.declared.act.Act.{Act, Set, Read, Branch'}
use Rattle.net_design.specs.declared.act.Mask.{Mask}
use Rattle.net_design.specs.declared.act.Place.{Place}
use Rattle.net_code.specs.vidi_bits.Number.{has}
use Rattle.net_design.specs.Sized.{IsSizedPlace}
use Rattle.net_design.specs.Bits.{BitSet, place_writes, target_writes, Apart}
use Rattle.net_design.specs.Lawful.{IsEquation}
use Rattle.net_code.specs.declared.bit_map.BitMap.{BitMap}
use Rattle.net_code.specs.BitMap.{in_map}
use Rattle.net_code.proofs.MaskLaws.{has_zero}
use Rattle.net_lawful.specs.Masks.{MaskIs}

pub no_bits_named : (b : Bool) (k : ℕ) → (b && has 0 k) ≡ false
no_bits_named true k = has_zero k
no_bits_named false k = refl

-- a mask's bits are those of p
pub mask_meets : (set : BitMap) (x : Mask) (p : BitSet) → ((m k : ℕ) → ((x.net == m) && has x.bits k) ≡ p m k)
    → MaskIs set false x ↔ ((m k : ℕ) → p m k ≡ true → in_map set m k ≡ false)
mask_meets set x p is = (
  (λ h m k t.
      let u = and_parts (x.net == m) (has x.bits k) (is m k ∙ t) in
      subst (λ n. in_map set n k ≡ false) (eqb-true x.net m u.0) (h k u.1)),
  (λ h k t. h x.net k (sym (is x.net k) ∙ and_from (x.net == x.net) (has x.bits k) (eq-eqb x.net x.net refl) t)),
)

-- ---- one place after the other

-- no bit of the set is one of the places'
abbrev pub IsFree : BitMap → List Place → Type 0
IsFree seen ps = (m k : ℕ) → in_map seen m k ≡ true → target_writes ps m k ≡ false

abbrev pub IsLeft : BitMap → List Place → Type 0
IsLeft seen ps = Apart ps × IsFree seen ps

either : (a b : Bool) → (a || b) ≡ true → (a ≡ false → b ≡ true)
either true b h = λ e. absurd (not_both true refl e)
either false b h = λ e. h

module _ (p : Place) (ps : List Place) (seen new : BitMap)
    (grew : (m k : ℕ) → in_map new m k ≡ (in_map seen m k || place_writes p m k)) where
  pub left_more : ((m k : ℕ) → place_writes p m k ≡ true → in_map seen m k ≡ false) → IsLeft seen (p ∷ ps) ↔ IsLeft new ps
  left_more apart = (
    (λ h. (
      h.0.1,
      (λ m k t. false_from_ne_true (target_writes ps m k) (λ u.
          let s : in_map seen m k ≡ false = false_from_ne_true (in_map seen m k) (λ v. not_both (target_writes ps m k) u
          (or_parts (place_writes p m k) (target_writes ps m k) (h.1 m k v)).1) in
          let w : place_writes p m k ≡ true = either (in_map seen m k) (place_writes p m k) (sym (grew m k) ∙ t) s in
          not_both (target_writes ps m k) u (h.0.0 m k w))),
    )),
    (λ h. (
      ((λ m k t. h.1 m k (grew m k ∙ or_right (in_map seen m k) (place_writes p m k) t)), h.0),
      (λ m k t. or_from (place_writes p m k) (target_writes ps m k)
          (false_from_ne_true (place_writes p m k) (λ u. not_both (in_map seen m k) t (apart m k u)))
          (h.1 m k (grew m k ∙ or_left (in_map seen m k) (place_writes p m k) t))),
    )),
  )

pub first_apart : (p : Place) (ps : List Place) (seen : BitMap) → IsLeft seen (p ∷ ps)
    → (m k : ℕ) → place_writes p m k ≡ true → in_map seen m k ≡ false
first_apart p ps seen h m k t = false_from_ne_true (in_map seen m k) (λ u.
    not_both (place_writes p m k) t (or_parts (place_writes p m k) (target_writes ps m k) (h.1 m k u)).0)

-- ---- at a place of a list
module _ (xs : List Place) (i : ℕ) (p : Place) (here : i < length xs) (is : p ≡ get_or xs i p) (seen : BitMap) where
  front : drop i xs ≡ p ∷ drop (i + 1) xs
  front = drop_more xs i p here ∙ ap (λ (y : Place). y ∷ drop (i + 1) xs) (sym is)

  pub place_sized : AllByRecursion (λ (y : Place). IsSizedPlace y) (drop i xs) → IsSizedPlace p
  place_sized h = (subst (AllByRecursion (λ (y : Place). IsSizedPlace y)) front h).0

  pub rest_sized : AllByRecursion (λ (y : Place). IsSizedPlace y) (drop i xs)
      → AllByRecursion (λ (y : Place). IsSizedPlace y) (drop (i + 1) xs)
  rest_sized h = (subst (AllByRecursion (λ (y : Place). IsSizedPlace y)) front h).1

  pub one_left : (new : BitMap) → ((m k : ℕ) → in_map new m k ≡ (in_map seen m k || place_writes p m k))
      → ((m k : ℕ) → place_writes p m k ≡ true → in_map seen m k ≡ false)
      → (IsLeft seen (drop i xs) ↔ Apart xs) → (IsLeft new (drop (i + 1) xs) ↔ Apart xs)
  one_left new grew apart all =
      let e = left_more p (drop (i + 1) xs) seen new grew apart in (
        (λ h. all.0 (subst (IsLeft seen) (sym front) (e.1 h))),
        (λ h. e.0 (subst (IsLeft seen) front (all.1 h))),
      )

  pub one_apart : (IsLeft seen (drop i xs) ↔ Apart xs) → Apart xs → (m k : ℕ) → place_writes p m k ≡ true → in_map seen m k ≡ false
  one_apart all h = first_apart p (drop (i + 1) xs) seen (subst (IsLeft seen) front (all.1 h))

-- ---- equations
pub one_act : (acts : List Act) → length acts ≢ 1 → IsEquation acts → ⊥
one_act [] l h = h
one_act (a ∷ []) l h = l refl
one_act (Set target e ∷ b ∷ rest) l h = h
one_act (Read e ∷ b ∷ rest) l h = h
one_act (Branch' n guards j otherwise ∷ b ∷ rest) l h = h

pub only_act : (acts : List Act) (d : Act) → length acts ≡ 1 → acts ≡ get_or acts 0 d ∷ []
only_act [] d e = absurd (omega arith)
only_act (a ∷ []) d e = refl
only_act (a ∷ b ∷ rest) d e = absurd (omega arith)
