-- The bits that a register holds, as a mask.
use Rattle.std.proofs.Common.{◌≡◌, ℕ, zero, suc, ◌+◌, ◌-◌, ◌^◌, ◌<◌, ◌≤◌, nat_lt, ◌&&◌, ◌==◌, not, Bool, true, false, bit_and, min}
use Rattle.std.proofs.Common.{List, [], ◌∷◌, ◌++◌, length, take, get_or}
use Rattle.std.proofs.Common.{if◌then◌else◌, ⊎_elim, refl, sym, ap, subst, ◌∙◌, arith, pow_mono, pow_pos}
use Rattle.std.specs.Int.{bit_at}
use Rattle.std.specs.List.{AllZip}
use Rattle.std.proofs.lemmas.Bool.{cases_lt, lt-ltb, le-ltb}
use Rattle.std.proofs.lemmas.Nat.Bits.{bit_at-lt, bit_at_and, bit_at_ones, bit_at_ones_above}
use Rattle.std.proofs.lemmas.List.{take_more, map-append}
use Rattle.net_design.specs.declared.design.Driver.{Driver}
use Rattle.net_design.specs.declared.design.Register.{Register}
use Rattle.flat_parts.specs.vidi_bits.Number.{has}
use Rattle.flat_parts.specs.net_code.declared.bit_map.BitMap.{BitMap}
use Rattle.flat_parts.specs.net_code.BitMap.{mask_of, in_map}
use Rattle.flat_parts.proofs.net_code_lemmas.MaskLaws.{has_less}
use Rattle.flat_parts.specs.State.{RegPlace, always_writes_bit, IsRegisterOf}
use Rattle.flat_registers.specs.declared.places.RegNet.{RegNet}
use Rattle.flat_registers.specs.Places.{plain_place, plain_places, IsWrittenAt}

-- a bit of which another is left where that is 1
least : (x y : ℕ) (b : Bool) → x < 2 → y < 2 → (y == 1) ≡ b → min x y ≡ (if b then x else 0)
least x zero true l m e = absurd (cc)
least x zero false l m e = omega arith
least x (suc zero) true l m e = omega (arith, l)
least x (suc zero) false l m e = absurd (cc)
least x (suc (suc y)) b l m e = absurd (omega (arith, m))

has_ones : (w k : ℕ) → has (2 ^ w - 1) k ≡ nat_lt k w
has_ones w k = ⊎_elim
    (λ (l : k < w). ap (λ n. n == 1) (bit_at_ones w k l) ∙ sym (lt-ltb k w l))
    (λ (g : w ≤ k). ap (λ n. n == 1) (bit_at_ones_above w k g) ∙ sym (le-ltb k w g))
    (cases_lt k w)

few_ones : (w : ℕ) → w ≤ 128 → 2 ^ w - 1 < 2 ^ 128
few_ones w h =
    let most : 2 ^ w ≤ 2 ^ 128 = pow_mono {i = w} {j = 128} h in
    let some : 0 < 2 ^ w = pow_pos w in
    omega (arith, most, some)

held_bit : (w all written held k : ℕ) → w ≤ 128 → written < 2 ^ 128 → all ≡ 2 ^ w - 1 → held ≡ bit_and all (2 ^ 128 - 1 - written)
    → has held k ≡ (nat_lt k w && not (has written k))
held_bit w all written held k h l is masked =
    ap (λ n. has n k) (masked ∙ ap (λ n. bit_and n (2 ^ 128 - 1 - written)) is)
    ∙ has_less (2 ^ w - 1) written k (few_ones w h) l
    ∙ ap (λ b. b && not (has written k)) (has_ones w k)

-- the register of a reg
pub is_register : (reg : RegNet) (all written held : ℕ) → reg.width ≤ 128 → written < 2 ^ 128 → all ≡ 2 ^ reg.width - 1
    → held ≡ bit_and all (2 ^ 128 - 1 - written) → (drivers : List Driver) → IsWrittenAt drivers reg.net written
    → IsRegisterOf drivers (plain_place reg) (record { net = reg.net; held = held; initial = bit_and reg.initial held })
is_register reg all written held h l is masked drivers at = record {
  net = refl;
  held = λ k. held_bit reg.width all written held k h l is masked ∙ ap (λ b. nat_lt k reg.width && not b) (at k);
  initial = λ k. bit_at_and reg.initial held k
      ∙ least (bit_at reg.initial k) (bit_at held k) (has held k) (bit_at-lt reg.initial k) (bit_at-lt held k) refl;
}

-- ---- one more register

zip_more : {A B : Type 0} (R : A → B → Type 0) (xs : List A) (ys : List B) (x : A) (y : B) → AllZip R xs ys → R x y
    → AllZip R (xs ++ x ∷ []) (ys ++ y ∷ [])
zip_more R [] [] x y h d = (d, tt)
zip_more R [] (z ∷ ys) x y h d = absurd h
zip_more R (w ∷ xs) [] x y h d = absurd h
zip_more R (w ∷ xs) (z ∷ ys) x y h d = (h.0, zip_more R xs ys x y h.1 d)

places_more : (regs : List RegNet) (i : ℕ) (d : RegNet) → i < length regs
    → plain_places (take (i + 1) regs) ≡ plain_places (take i regs) ++ plain_place (get_or regs i d) ∷ []
places_more regs i d l =
    ap plain_places (take_more regs i d l) ∙ map-append plain_place (take i regs) (get_or regs i d ∷ [])

pub register_more : (R : RegPlace → Register → Type 0) (regs : List RegNet) (i : ℕ) (d : RegNet) (old new : List Register) (x : Register)
    → i < length regs → new ≡ old ++ x ∷ [] → AllZip R (plain_places (take i regs)) old → R (plain_place (get_or regs i d)) x
    → AllZip R (plain_places (take (i + 1) regs)) new
register_more R regs i d old new x l is h own =
    subst (λ ys. AllZip R (plain_places (take (i + 1) regs)) ys) (sym is)
    (subst (λ ps. AllZip R ps (old ++ x ∷ [])) (sym (places_more regs i d l))
    (zip_more R (plain_places (take i regs)) old (plain_place (get_or regs i d)) x h own))

-- the mask of a net has the bits that the map has
pub written_at : (map : BitMap) (net mask : ℕ) (drivers : List Driver) → mask ≡ mask_of map net
    → ((m k : ℕ) → in_map map m k ≡ always_writes_bit drivers m k) → IsWrittenAt drivers net mask
unfolding in_map
written_at map net mask drivers is same k = ap (λ n. has n k) is ∙ same net k
