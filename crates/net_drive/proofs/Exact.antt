-- Bits that have exactly one driver, and the first that hasn't.
use Rattle.std.proofs.Common.{◌≡◌, ℕ, zero, suc, ◌+◌, ◌-◌, ◌<◌, ◌==◌, ◌&&◌, not, nat_lt, Bool, true, false}
use Rattle.std.proofs.Common.{List, [], ◌∷◌, ◌++◌, Option, Some, None, is_some, drop, drop-cons, get_or, length, refl, ap, sym, ◌∙◌, arith}
use Rattle.std.proofs.lemmas.Bool.{lt-ltb, eqb-true, false_from_ne_true}
use Rattle.net_code.specs.Targets.{bit_count}
use Rattle.net_code.proofs.vidi_bits_lemmas.Bools.{not_both}
use Rattle.net_code.specs.vidi_bits.Findings.{first, told_if}
use Rattle.net_code.specs.vidi_bits.Number.{truth}
use Rattle.net_design.specs.declared.act.Place.{Place}
use Rattle.net_drive.specs.declared.findings.Misdriven.{Misdriven}
use Rattle.net_drive.specs.declared.findings.Misdriven.TheVariants as what
use Rattle.net_design.specs.declared.design.Net.{Net}
use Rattle.net_design.specs.declared.design.DesignMemory.{DesignMemory}
use Rattle.net_drive.specs.declared.findings.NetKind.{NetKind}
use Rattle.net_drive.specs.Drive.{bit_faults, kind_faults, kind_at, nets_from, memory_at, memories_from}
use Rattle.net_drive.specs.Tallied.{exact}

exact_pin : (c : ℕ) → not (nat_lt 0 c) ≡ (1 + c == 1)
exact_pin zero = refl
exact_pin (suc n) =
    ap not (lt-ltb 0 (suc n) (omega arith))
    ∙ sym (false_from_ne_true (1 + suc n == 1) (λ t. let h : 1 + suc n ≡ 1 = eqb-true (1 + suc n) 1 t in omega arith))

exact_wire : (c : ℕ) → (nat_lt 0 c && not (nat_lt 1 c)) ≡ (0 + c == 1)
exact_wire zero = refl
exact_wire (suc zero) = refl
exact_wire (suc (suc n)) =
    ap (λ b. b && not (nat_lt 1 (suc (suc n)))) (lt-ltb 0 (suc (suc n)) (omega arith)) ∙ ap not (lt-ltb 1 (suc (suc n)) (omega arith))
    ∙ sym (false_from_ne_true (0 + suc (suc n) == 1) (λ t. let h : 0 + suc (suc n) ≡ 1 = eqb-true (0 + suc (suc n)) 1 t in omega arith))

exact_count : (pin : Bool) (c : ℕ) → exact pin (nat_lt 0 c) (nat_lt 1 c) ≡ (truth pin + c == 1)
exact_count true c = exact_pin c
exact_count false c = exact_wire c

pub counted : (pin : Bool) (c : ℕ) (once more : Bool) → once ≡ nat_lt 0 c → more ≡ nat_lt 1 c → exact pin once more ≡ (truth pin + c == 1)
counted pin c once more o w = ap (λ b. exact pin b more) o ∙ ap (exact pin (nat_lt 0 c)) w ∙ exact_count pin c

module _ (places : List Place) (m pins k width : ℕ) where
  abbrev here : List Misdriven
  here = told_if (not (pins + bit_count places m k == 1)) (what.Net m k (pins + bit_count places m k))

  one_less : k < width → bit_faults places m pins k (width - k) ≡ here ++ bit_faults places m pins (k + 1) (width - (k + 1))
  one_less within =
      let more : width - k ≡ suc (width - (k + 1)) = omega arith in
      ap (bit_faults places m pins k) more

  fine_case : (b : Bool) (x : Misdriven) (rest : List Misdriven) → b ≡ true → told_if (not b) x ++ rest ≡ rest
  fine_case true x rest e = refl
  fine_case false x rest e = absurd (cc)

  bad_case : (b : Bool) (x : Misdriven) (rest : List Misdriven) → b ≡ false → first (told_if (not b) x ++ rest) ≡ Some x
  bad_case true x rest e = absurd (cc)
  bad_case false x rest e = refl

  pub fine : k < width → (pins + bit_count places m k == 1) ≡ true
      → bit_faults places m pins k (width - k) ≡ bit_faults places m pins (k + 1) (width - (k + 1))
  fine within e = one_less within ∙ fine_case _ _ _ e

  pub bad : k < width → (pins + bit_count places m k == 1) ≡ false
      → first (bit_faults places m pins k (width - k)) ≡ Some (what.Net m k (pins + bit_count places m k))
  bad within e = ap first (one_less within) ∙ bad_case _ _ _ e

pub none_left : (places : List Place) (m pins k width : ℕ) → width ≡ k → first (bit_faults places m pins k (width - k)) ≡ None
none_left places m pins k width e =
    let none : width - k ≡ 0 = omega arith in
    ap (λ n. first (bit_faults places m pins k n)) none

abbrev pub pick : Option Misdriven → Option Misdriven → Option Misdriven
pick None other = other
pick (Some x) other = Some x

pub either : (found other result : Option Misdriven) (xs ys : List Misdriven) → found ≡ first xs → other ≡ first ys
    → result ≡ (pick found other) → result ≡ first (xs ++ ys)
either found other result xs ys f o is = is ∙ ap (λ x. pick x other) f ∙ both xs
  where
    both : (xs : List Misdriven) → pick (first xs) other ≡ first (xs ++ ys)
    both [] = o
    both (x ∷ xs) = refl

-- ---- the first finding of two lists

pub found_first : (xs ys : List Misdriven) (o : Option Misdriven) → o ≡ first xs → is_some o ≡ true → o ≡ first (xs ++ ys)
found_first [] ys o e s = absurd (not_both (is_some o) s (ap (λ (x : Option Misdriven). is_some x) e))
found_first (x ∷ xs) ys o e s = e

pub not_found : (xs ys : List Misdriven) (o : Option Misdriven) → o ≡ first xs → is_some o ≡ false → first (xs ++ ys) ≡ first ys
not_found [] ys o e s = refl
not_found (x ∷ xs) ys o e s = absurd (not_both (is_some o) (ap (λ (x : Option Misdriven). is_some x) e) s)

pub nets_split : (places : List Place) (blocks : List (List ℕ)) (kinds : List NetKind) (nets : List Net) (i : ℕ) (n : Net) → i < length nets
    → n ≡ get_or nets i n → nets_from places blocks kinds i (drop i nets)
    ≡ kind_faults places blocks i n.width (kind_at kinds i) ++ nets_from places blocks kinds (i + 1) (drop (i + 1) nets)
nets_split places blocks kinds nets i n within is =
    let after : suc i ≡ i + 1 = omega arith in
    ap (nets_from places blocks kinds i)
    (drop-cons nets i n within ∙ ap (λ (x : Net). x ∷ drop (suc i) nets) (sym is) ∙ ap (λ j. n ∷ drop j nets) after)

pub memories_split : (blocks : List (List ℕ)) (memories : List DesignMemory) (i : ℕ) (a : DesignMemory) → i < length memories
    → a ≡ get_or memories i a
    → memories_from blocks i (drop i memories) ≡ memory_at blocks i a.room.first ++ memories_from blocks (i + 1) (drop (i + 1) memories)
memories_split blocks memories i a within is =
    let after : suc i ≡ i + 1 = omega arith in
    ap (memories_from blocks i)
    (drop-cons memories i a within ∙ ap (λ (x : DesignMemory). x ∷ drop (suc i) memories) (sym is) ∙ ap (λ j. a ∷ drop j memories) after)
