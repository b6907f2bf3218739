-- Decimal texts: the numbers that they spell, and what literals and ranges of them mean.
use Rattle.std.proofs.Common.{◌≡◌, ℕ, suc, ◌+◌, ◌-◌, ◌*◌, ◌/◌, ◌%◌, ◌<◌, ◌≤◌, ◌^◌, ◌==◌, Bool, true, false, if◌then◌else◌}
use Rattle.std.proofs.Common.{List, [], ◌∷◌, ◌++◌, None, Some, refl, sym, ap, ◌∙◌, arith, drop, nat_lt, nat_le}
use Rattle.std.specs.Prelude.{codes}
use Rattle.std.specs.List.{AllByRecursion, after_first, position_or_len}
use Rattle.std.specs.Fmt.{decimal}
use Rattle.std.proofs.lemmas.Fmt.{decimal_by_steps}
use Rattle.std.proofs.lemmas.Bool.Decides.{nat_tests}
use Rattle.std.proofs.Math.Nat.{zero-mod}
use Rattle.net_order.proofs.vidi_bits_lemmas.Each.{each_append}
use Rattle.net_order.specs.vidi_bits.Number.{IsWidth}
use Rattle.vlog_tree.specs.declared.expr.NumberKind.TheVariants.{Decimal, Based}
use Rattle.shim_trees.specs.vlog_size.Literal.{digit, digits_from, is_quote, after_quote, literal_number, literal_width, is_lawful}
use Rattle.shim_trees.specs.vlog_size.Size.{or_zero, number, of_number}
use Rattle.flat_parts.specs.vlog_scope.Extents.{net_width, bits_of, counted, MOST}
use Rattle.shim_step.specs.Plain.{extent}
use Rattle.shim_trees.specs.Pieces.{range_of}
use Rattle.shim_trees.specs.Pieces as pieces

abbrev pub IsDigit : ℕ → Type 0
IsDigit b = (48 ≤ b) × (b ≤ 57)

-- these digits spell this number
pub record Spells (n : ℕ) (text : List ℕ) : Type 0 where
  pub each : AllByRecursion IsDigit text
  pub value : digits_from 10 0 text ≡ n

no_line : (d : ℕ) → d < 10 → (48 + d == 95) ≡ false
no_line d h = grind (arith, nat_tests)

low_digit : (d : ℕ) → d < 10 → nat_le (48 + d) 57 ≡ true
low_digit d h = grind (arith, nat_tests)

digit_is : (d : ℕ) → d < 10 → digit (48 + d) ≡ d
digit_is d h = let e : nat_le (48 + d) 57 ≡ true = low_digit d h in rw e (omega arith)

one_more : (ds : List ℕ) (m d : ℕ) → d < 10 → digits_from 10 m (ds ++ (48 + d) ∷ []) ≡ digits_from 10 m ds * 10 + d
one_more [] m d h =
    let e : (48 + d == 95) ≡ false = no_line d h in
    rw e (ap (λ z. m * 10 + z) (digit_is d h))
one_more (x ∷ ds) m d h = one_more ds (if x == 95 then m else m * 10 + digit x) d h

spells_digit : (n : ℕ) → n < 10 → Spells n ((48 + n) ∷ [])
spells_digit n h = record {
  each = ((omega arith, omega (arith, h)), tt);
  value = one_more [] 0 n h ∙ omega arith;
}

below_ten : (n : ℕ) → n % 10 < 10
below_ten n = omega arith

spells_more : (n : ℕ) (ds : List ℕ) → 10 ≤ n → Spells (n / 10) ds → Spells n (ds ++ ((48 + n % 10) ∷ []))
spells_more n ds h s =
    let low : n % 10 < 10 = below_ten n in
    let v = s.value in
    record {
      each = each_append IsDigit ds ((48 + n % 10) ∷ []) s.each ((omega arith, omega (arith, low)), tt);
      value = one_more ds 0 (n % 10) low ∙ (let e : digits_from 10 0 ds * 10 + n % 10 ≡ n = omega (arith, v) in e);
    }

pub decimal_spells : (n : ℕ) → n < 2 ^ 64 → Spells n (decimal n)
decimal_spells n h = decimal_by_steps Spells spells_digit spells_more n h

-- ---- `W'd0`
no_quote : (d : ℕ) → IsDigit d → is_quote d ≡ false
no_quote d h = let low = h.0 in grind (arith, nat_tests)

next_drop : (p d : ℕ) (xs : List ℕ) → drop (1 + p + 1) (d ∷ xs) ≡ drop (p + 1) xs
next_drop p d xs = let e : 1 + p + 1 ≡ suc (p + 1) = omega arith in ap (λ k. drop k (d ∷ xs)) e

behind_quote : (ds rest : List ℕ) → AllByRecursion IsDigit ds → after_first is_quote (ds ++ 39 ∷ rest) ≡ rest
behind_quote [] rest h = refl
behind_quote (d ∷ ds) rest h =
    let q : is_quote d ≡ false = no_quote d h.0 in
    rw q (next_drop (position_or_len is_quote (ds ++ 39 ∷ rest)) d (ds ++ 39 ∷ rest)) ∙ behind_quote ds rest h.1

zero_if : (b : Bool) (w : ℕ) → or_zero (if b then Some (0 % 2 ^ w) else None) ≡ 0
zero_if true w = zero-mod (2 ^ w)
zero_if false w = refl

pub zero_literal : (l : ℕ) → l < 2 ^ 64 → or_zero (literal_number Based (decimal l ++ codes "'d0")) ≡ 0
zero_literal l h =
    let e : after_quote (decimal l ++ codes "'d0") ≡ codes "d0" = behind_quote (decimal l) (codes "d0") (decimal_spells l h).each in
    rw e (zero_if (is_lawful (literal_width Based (decimal l ++ codes "'d0"))) (literal_width Based (decimal l ++ codes "'d0")))

-- ---- ranges
whole_of : (n : ℕ) (text : List ℕ) → Spells n text → n ≤ 2147483647
    → number (of_number (record { kind = Decimal; text = text; line = 0 })) ≡ Some n
unfolding number
whole_of n text s h =
    let v = s.value in
    let small : nat_le n 2147483647 ≡ true = least n h in
    rw (v, small) refl where
      least : (n : ℕ) → n ≤ 2147483647 → nat_le n 2147483647 ≡ true
      least n h = grind (arith, nat_tests)

wide_one : (w : ℕ) → (w == 1) ≡ true → w ≡ 1
wide_one w e = grind (arith, nat_tests)

counted_is : (n : ℕ) → n < MOST → counted (Some 0) (Some n) ≡ Some (n + 1)
counted_is n h = let e : nat_lt n MOST ≡ true = less n h in rw e refl where
  less : (n : ℕ) → n < MOST → nat_lt n MOST ≡ true
  less n h = grind (arith, nat_tests)

width_if : (w : ℕ) (b : Bool) → (w == 1) ≡ b → 0 < w → w ≤ 128
    → net_width (extent (if b then None else Some record { first = pieces.number (w - 1); second = pieces.number 0 })) ≡ w
width_if w true e some few = sym (wide_one w e)
width_if w false e some few =
    let last : number (of_number (record { kind = Decimal; text = decimal (w - 1); line = 0 })) ≡ Some (w - 1) =
    whole_of (w - 1) (decimal (w - 1)) (decimal_spells (w - 1) (omega (arith, few))) (omega (arith, few)) in
    let low : number (of_number (record { kind = Decimal; text = decimal 0; line = 0 })) ≡ Some 0 =
    whole_of 0 (decimal 0) (decimal_spells 0 (omega arith)) (omega arith) in
    ap (λ a. net_width (bits_of (counted a (number (of_number (record { kind = Decimal; text = decimal (w - 1); line = 0 })))))) low
    ∙ ap (λ b. net_width (bits_of (counted (Some 0) b))) last
    ∙ ap (λ c. net_width (bits_of c)) (counted_is (w - 1) (omega (arith, few)))
    ∙ omega (arith, some)

-- the range of a width has that width
pub range_width : (w : ℕ) → IsWidth w → net_width (extent (range_of w)) ≡ w
range_width w is = width_if w (w == 1) refl is.0 is.1
