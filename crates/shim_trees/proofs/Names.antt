-- Generated names are identifiers and no reserved words, and generated numbers are lawful literals.
use Rattle.std.proofs.Common.{◌≡◌, ℕ, ◌+◌, ◌<◌, ◌≤◌, ◌^◌, ◌/◌, ◌%◌, ◌==◌, Bool, true, false, ◌&&◌, not, List, [], ◌∷◌, ◌++◌, refl, sym, ◌∙◌}
use Rattle.std.proofs.Common.{subst, arith, inr, length, append_assoc}
use Rattle.std.specs.Prelude.{codes}
use Rattle.std.specs.Fmt.{decimal}
use Rattle.std.specs.List.{AllByRecursion, list_all}
use Rattle.std.specs.Char.{is_ascii_digit}
use Rattle.std.proofs.lemmas.Bool.{and_parts, or_left, false≢true}
use Rattle.std.proofs.lemmas.Bool.Decides.{nat_tests}
use Rattle.std.proofs.lemmas.Fmt.{decimal_by_steps, decimal_nonempty}
use Rattle.vlog_size.proofs.vidi_bits_lemmas.Each.{each_weaker, each_append}
use Rattle.vlog_size.specs.vlog_lex.Span.{Each}
use Rattle.vlog_size.specs.vlog_lex.Words.{reserved_words, is_reserved, is_among}
use Rattle.vlog_size.specs.vlog_lex.Lexeme.{begins_name, continues_name, is_digit_of, continues_digits, IsName, IsDecimal, IsToken}
use Rattle.vlog_size.specs.vlog_lex.declared.token.TokenKind.TheVariants.{Decimal, Based}
use Rattle.vlog_size.proofs.vlog_lex_lemmas.Spans.{run_each}
use Rattle.vlog_size.proofs.vlog_lex_lemmas.Longest.{holds_among}
use Rattle.vlog_tree.specs.Shape.{IsGoodName}
use Rattle.shim_trees.specs.Pieces.{numbered, numbered_twice}
use Rattle.shim_trees.specs.Links.{tied}

-- ---- decimal texts
abbrev IsDigit : ℕ → Type 0
IsDigit b = (48 ≤ b) × (b ≤ 57)

abbrev AreDigits : ℕ → List ℕ → Type 0
AreDigits n text = AllByRecursion IsDigit text

one_digit : (n : ℕ) → n < 10 → AreDigits n ((48 + n) ∷ [])
one_digit n h = ((omega arith, omega (arith, h)), tt)

more_digits : (n : ℕ) (ds : List ℕ) → 10 ≤ n → AreDigits (n / 10) ds → AreDigits n (ds ++ ((48 + n % 10) ∷ []))
more_digits n ds h each =
    let low : n % 10 < 10 = below n in
    each_append IsDigit ds ((48 + n % 10) ∷ []) each ((omega arith, omega (arith, low)), tt)
  where
    below : (m : ℕ) → m % 10 < 10
    below m = omega arith

digits : (n : ℕ) → n < 2 ^ 64 → AreDigits n (decimal n)
digits n small = decimal_by_steps AreDigits one_digit more_digits n small

-- ---- names
abbrev name_test : List ℕ → Bool
name_test [] = false
name_test (b ∷ text) = begins_name b && list_all continues_name text

each_from : (text : List ℕ) → list_all continues_name text ≡ true → Each continues_name text
each_from [] h = tt
each_from (b ∷ text) h =
    let parts = and_parts (continues_name b) (list_all continues_name text) h in
    (parts.0, each_from text parts.1)

digit_goes_on : (b : ℕ) → IsDigit b → continues_name b ≡ true
digit_goes_on b h = let low = h.0 in let high = h.1 in grind (arith, nat_tests)

digits_go_on : (n : ℕ) → n < 2 ^ 64 → Each continues_name (decimal n)
digits_go_on n small = each_weaker IsDigit (λ b. continues_name b ≡ true) digit_goes_on (decimal n) (digits n small)

name_more : (base text : List ℕ) → name_test base ≡ true → Each continues_name text → IsName (base ++ text)
name_more [] text h each = absurd (false≢true h)
name_more (b ∷ base) text h each =
    let parts = and_parts (begins_name b) (list_all continues_name base) h in
    (parts.0, each_append (λ c. continues_name c ≡ true) base text (each_from base parts.1) each)

name_is : (text : List ℕ) → name_test text ≡ true → IsName text
name_is [] h = absurd (false≢true h)
name_is (b ∷ text) h =
    let parts = and_parts (begins_name b) (list_all continues_name text) h in
    (parts.0, each_from text parts.1)

-- ---- no reserved word begins so
abbrev begins_with : List ℕ → List ℕ → Bool
begins_with [] text = true
begins_with (b ∷ base) [] = false
begins_with (b ∷ base) (c ∷ text) = (b == c) && begins_with base text

same_eq : (n : ℕ) → (n == n) ≡ true
same_eq n = grind (arith, nat_tests)

begins_own : (base text : List ℕ) → begins_with base (base ++ text) ≡ true
begins_own [] text = refl
begins_own (b ∷ base) text = let e : (b == b) ≡ true = same_eq b in rw e (begins_own base text)

not_true : (b : Bool) → not b ≡ true → b ≡ true → ⊥
not_true true h e = (cc)
not_true false h e = (cc)

-- whether no reserved word begins with this base
abbrev begins_none : List ℕ → Bool
begins_none base = list_all (λ w. not (begins_with base w)) reserved_words

front_unreserved : (base text : List ℕ) → begins_none base ≡ true → is_reserved (base ++ text) ≡ true → ⊥
unfolding is_reserved
front_unreserved base text none h =
    not_true (begins_with base (base ++ text)) (holds_among (λ w. not (begins_with base w)) reserved_words (base ++ text) h none)
    (begins_own base text)

-- the second byte of no reserved word is a digit
abbrev second_digit : List ℕ → Bool
second_digit (a ∷ b ∷ text) = is_ascii_digit b
second_digit text = false

second_unreserved : (text : List ℕ) → second_digit text ≡ true → is_reserved text ≡ true → ⊥
unfolding is_reserved
second_unreserved text second h = not_true (second_digit text) (holds_among (λ w. not (second_digit w)) reserved_words text h refl) second

digit_test : (b : ℕ) → IsDigit b → is_ascii_digit b ≡ true
digit_test b h = let low = h.0 in let high = h.1 in grind (arith, nat_tests)

letter_digits : (a : ℕ) (ds : List ℕ) → 0 < length ds → AllByRecursion IsDigit ds → second_digit (a ∷ ds) ≡ true
letter_digits a [] some h = absurd (omega (arith, some))
letter_digits a (d ∷ ds) some h = digit_test d h.0

-- ---- what the definitions use

-- a whole name that is given
pub fixed_name : (text : List ℕ) → name_test text ≡ true → is_among reserved_words text ≡ false → IsGoodName text
unfolding is_reserved
fixed_name text named absent = (name_is text named, λ h. false≢true (sym absent ∙ h))

-- a letter and a number: `s0`, `k0`, `n0`, `d0`, `c0`
pub letter_name : (a n : ℕ) → begins_name a ≡ true → n < 2 ^ 64 → IsGoodName (numbered (a ∷ []) n)
letter_name a n letter small =
    ((letter, digits_go_on n small), second_unreserved (a ∷ decimal n) (letter_digits a (decimal n) (decimal_nonempty n small) (digits n small)))

-- a base with which no reserved word begins, and a number
pub numbered_name : (base : List ℕ) (n : ℕ) → name_test base ≡ true → begins_none base ≡ true → n < 2 ^ 64 → IsGoodName (numbered base n)
numbered_name base n named none small =
    (name_more base (decimal n) named (digits_go_on n small), front_unreserved base (decimal n) none)

-- such a base and two numbers
pub twice_name : (base : List ℕ) (n i : ℕ) → name_test base ≡ true → begins_none base ≡ true → n < 2 ^ 64 → i < 2 ^ 64
    → IsGoodName (numbered_twice base n i)
twice_name base n i named none n_small i_small =
    subst IsGoodName (sym (append_assoc base (decimal n) (95 ∷ decimal i))) (
      name_more base (decimal n ++ 95 ∷ decimal i) named
          (each_append (λ c. continues_name c ≡ true) (decimal n) (95 ∷ decimal i) (digits_go_on n n_small) (refl, digits_go_on i i_small)),
      front_unreserved base (decimal n ++ 95 ∷ decimal i) none,
    )

pub tied_name : (x : List ℕ) → IsGoodName x → IsGoodName (tied x)
tied_name x good = (
  name_more (codes "t_") x refl (run_each begins_name continues_name x (λ b h. or_left (begins_name b) _ h) good.0),
  front_unreserved (codes "t_") x refl,
)

-- ---- numbers
digit_of_ten : (b : ℕ) → IsDigit b → is_digit_of 100 b ≡ true
digit_of_ten b h = let low = h.0 in let high = h.1 in grind (arith, nat_tests)

go_on_ten : (b : ℕ) → IsDigit b → continues_digits 100 b ≡ true
go_on_ten b h = let low = h.0 in let high = h.1 in grind (arith, nat_tests)

decimal_from : (ds : List ℕ) → 0 < length ds → AllByRecursion IsDigit ds → IsDecimal ds
decimal_from [] some h = absurd (omega (arith, some))
decimal_from (d ∷ ds) some h =
    (digit_of_ten d h.0, each_weaker IsDigit (λ b. continues_digits 100 b ≡ true) go_on_ten ds h.1)

pub number_token : (n : ℕ) → n < 2 ^ 64 → IsToken Decimal (decimal n)
number_token n small = decimal_from (decimal n) (decimal_nonempty n small) (digits n small)

pub zero_token : (w : ℕ) → w < 2 ^ 64 → IsToken Based (decimal w ++ codes "'d0")
zero_token w small = record {
  size = decimal w;
  base = 100;
  digits = 48 ∷ [];
  spelled = refl;
  sized = inr (number_token w small);
  valued = (refl, tt);
}
