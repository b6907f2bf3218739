-- Widths in decimal are read as these widths.
use Rattle.std.proofs.Common.{◌≡◌, ℕ, ◌+◌, ◌^◌, ◌%◌, ◌≤◌, ◌<◌, ◌&&◌, ◌==◌, not, Bool, true, false, ltb, leb, List, [], ◌∷◌, length, refl, ap, ◌∙◌, arith, le-leb, lt-ltb, ne_eqb, decimal, Some, None}
use Rattle.std.specs.Char.{digit_value}
use Rattle.std.specs.List.{list_all}
use Rattle.std.specs.Str.Parse.{AllDigits, digits_value}
use Rattle.std.proofs.lemmas.Bool.{cond-true, cond-false, and_from}
use Rattle.std.proofs.lemmas.Fmt.{decimal_by_steps, decimal_is_IsNumeral}
use Rattle.std.proofs.lemmas.List.Folds.{list_all-append}
use Rattle.std.proofs.lemmas.Str.Parse.{digit_from_value}
use Rattle.vidi_lines.specs.vidi_bits.Findings.{is_nil}
use Rattle.vidi_lines.specs.vidi_bits.Limits.{below_top}
use Rattle.vidi_lines.specs.Number.{is_digits, number_in, number_of}
use Rattle.wave_text.specs.Reading.{at_most_wide, width_of}
use Rattle.wave_text.proofs.Joined.{is_word}

pub word-decimal : (n : ℕ) → n < 2 ^ 64 → is_word (decimal n) ≡ true
word-decimal = decimal_by_steps (λ n ds. is_word ds ≡ true)
    (λ n l. and_from (leb 33 (48 + n)) true (le-leb 33 (48 + n) (omega arith)) refl)
    (λ n ds l h. list_all-append (λ b. leb 33 b) ds ((48 + n % 10) ∷ [])
    ∙ and_from (is_word ds) (leb 33 (48 + n % 10) && true) h
    (and_from (leb 33 (48 + n % 10)) true (le-leb 33 (48 + n % 10) (omega arith)) refl))

digits-test : (ds : List ℕ) → AllDigits 10 ds → list_all (λ b. ltb (digit_value b) 10) ds ≡ true
digits-test [] h = refl
digits-test (d ∷ ds) h =
    and_from (ltb (digit_value d) 10) (list_all (λ b. ltb (digit_value b) 10) ds) (lt-ltb (digit_value d) 10 h.0) (digits-test ds h.1)

no-both : (a b : Bool) → b ≡ false → (a && b) ≡ false
no-both true b e = e
no-both false b e = refl

-- no hexadecimal form
in-decimal : (ds : List ℕ) → 0 < length ds → AllDigits 10 ds → number_of ds ≡ number_in 10 ds
in-decimal [] l h = absurd (omega (arith, l))
in-decimal (a ∷ []) l h = refl
in-decimal (a ∷ b ∷ ds) l h =
    let digit = digit_from_value b h.1.0 in
    cond-false ((a == 48) && (b == 120)) (number_in 16 ds) (number_in 10 (a ∷ b ∷ ds))
    (no-both (a == 48) (b == 120) (ne_eqb b 120 (λ e. absurd (omega (arith, e, digit)))))

some-digits : (ds : List ℕ) → 0 < length ds → not (is_nil ds) ≡ true
some-digits [] l = absurd (omega (arith, l))
some-digits (d ∷ ds) l = refl

number-decimal : (n : ℕ) → n < 2 ^ 64 → number_of (decimal n) ≡ Some n
number-decimal n small =
    let is = decimal_is_IsNumeral n small in
    let ds = decimal n in
    in-decimal ds is.0.0 is.0.1
    ∙ cond-true (is_digits 10 ds) (below_top (digits_value 10 ds)) None
    (and_from (not (is_nil ds)) (list_all (λ b. ltb (digit_value b) 10) ds) (some-digits ds is.0.0) (digits-test ds is.0.1))
    ∙ ap below_top is.1 ∙ cond-true (ltb n (2 ^ 128)) (Some n) None (lt-ltb n (2 ^ 128) (omega (arith, small)))

pub width-decimal : (w : ℕ) → w ≤ 128 → width_of (decimal w) ≡ w
width-decimal w small = ap at_most_wide (number-decimal w (omega (arith, small))) ∙ omega (arith, small)
