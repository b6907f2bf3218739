-- A numeral is read digit by digit.
use Rattle.std.proofs.Common.{◌≡◌, ℕ, ◌+◌, ◌*◌, ◌≤◌, ◌<◌, ◌^◌, Bool, true, false, ◌&&◌, nat_lt, List, [], ◌∷◌, if◌then◌else◌, arith, Option}
use Rattle.std.proofs.Common.{None, Some, refl, drop, length, get_or, ap, ◌∙◌, suc, drop-cons}
use Rattle.std.proofs.lemmas.List.{drop_all}
use Rattle.std.specs.Char.{digit_value}
use Rattle.std.specs.List.{list_all}
use Rattle.std.specs.Str.Parse.{digits_value_after}
use Rattle.vidi_bits.proofs.ArithmeticLemmas.{shifted_grows}
use Rattle.vidi_bits.specs.Findings.{is_nil}
use Rattle.vidi_bits.specs.Limits.{below_top}
use Rattle.vidi_lines.specs.Number.{number_in}

-- what these digits make behind those of n
abbrev pub number_from : ℕ → ℕ → List ℕ → Option ℕ
number_from base n text = if list_all (λ b. nat_lt (digit_value b) base) text then below_top (digits_value_after base n text) else None

below_is : (x m : ℕ) → below_top x ≡ Some m → x ≡ m
below_is x m e = grind arith

below_small : (x m : ℕ) → below_top x ≡ Some m → m < 2 ^ 128
below_small x m e = grind arith

past_below : (x v : ℕ) → x ≤ v → below_top x ≡ None → below_top v ≡ None
past_below x v le e = grind arith

fits : (n : ℕ) → n < 2 ^ 128 → below_top n ≡ Some n
fits n h = grind arith

digits_grow : (base n : ℕ) (text : List ℕ) → 1 ≤ base → n ≤ digits_value_after base n text
digits_grow base n [] h = omega arith
digits_grow base n (b ∷ text) h = omega (arith, shifted_grows base n (digit_value b) h, digits_grow base (n * base + digit_value b) text h)

one_at : (t r : Bool) (x m : ℕ) (after : ℕ → ℕ) → (if t then below_top x else None) ≡ Some m
    → (if t && r then below_top (after x) else None) ≡ (if r then below_top (after m) else None)
one_at false r x m after e = cc
one_at true r x m after e = ap (λ k. if r then below_top (after k) else None) (below_is x m e)

small_at : (t : Bool) (x m : ℕ) → (if t then below_top x else None) ≡ Some m → m < 2 ^ 128
small_at false x m e = let off : None ≡ Some m = e in absurd (cc)
small_at true x m e = below_small x m e

none_at : (t r : Bool) (x v : ℕ) → x ≤ v → (if t then below_top x else None) ≡ None → (if t && r then below_top v else None) ≡ None
none_at false r x v le e = refl
none_at true false x v le e = refl
none_at true true x v le e = past_below x v le e

-- what `with_digit` answers
abbrev pub digit_step : ℕ → ℕ → ℕ → Option ℕ
digit_step base n b = if nat_lt (digit_value b) base then below_top (n * base + digit_value b) else None

pub one_digit : (base n m b : ℕ) (text : List ℕ) → digit_step base n b ≡ Some m → number_from base n (b ∷ text) ≡ number_from base m text
one_digit base n m b text e =
    one_at (nat_lt (digit_value b) base) (list_all (λ c. nat_lt (digit_value c) base) text) (n * base + digit_value b) m
    (λ k. digits_value_after base k text) e

pub no_digit : (base n b : ℕ) (text : List ℕ) → 1 ≤ base → digit_step base n b ≡ None → number_from base n (b ∷ text) ≡ None
no_digit base n b text one e =
    none_at (nat_lt (digit_value b) base) (list_all (λ c. nat_lt (digit_value c) base) text) (n * base + digit_value b) _
    (digits_grow base (n * base + digit_value b) text one) e

pub small_after : (base n m b : ℕ) → digit_step base n b ≡ Some m → m < 2 ^ 128
small_after base n m b e = small_at (nat_lt (digit_value b) base) (n * base + digit_value b) m e

pub starts : (base : ℕ) (text : List ℕ) → is_nil text ≡ false → number_in base text ≡ number_from base 0 text
starts base [] e = cc
starts base (b ∷ text) e = refl

pub read_more : (base n m i : ℕ) (text : List ℕ) → i < length text → digit_step base n (get_or text i 0) ≡ Some m
    → number_from base n (drop i text) ≡ number_from base m (drop (i + 1) text)
read_more base n m i text within e =
    let split : drop i text ≡ get_or text i 0 ∷ drop (suc i) text = drop-cons text i 0 within in
    let after : suc i ≡ i + 1 = omega arith in
    let next : drop (suc i) text ≡ drop (i + 1) text = ap (λ k. drop k text) after in
    ap (λ rest. number_from base n rest) split ∙ one_digit base n m (get_or text i 0) (drop (suc i) text) e
    ∙ ap (λ rest. number_from base m rest) next

pub read_none : (base n i : ℕ) (text : List ℕ) → 1 ≤ base → i < length text → digit_step base n (get_or text i 0) ≡ None
    → number_from base n (drop i text) ≡ None
read_none base n i text one within e =
    ap (number_from base n) (drop-cons text i 0 within) ∙ no_digit base n (get_or text i 0) (drop (suc i) text) one e

pub read_all : (base n i : ℕ) (text : List ℕ) → length text ≤ i → n < 2 ^ 128 → number_from base n (drop i text) ≡ Some n
read_all base n i text over small = ap (number_from base n) (drop_all i text over) ∙ fits n small
