-- Each byte of a lawful token is above a blank, so none is a newline.
use Rattle.std.proofs.Common.{◌≡◌, ℕ, Bool, true, List, [], ◌∷◌, ◌++◌, ◌+◌, ◌==◌, ◌⊎◌, inl, inr, cond, nat_lt, refl, sym, subst, arith, ◌∙◌}
use Rattle.std.specs.Prelude.{IsTrue}
use Rattle.std.specs.List.{list_all}
use Rattle.std.proofs.lemmas.Bool.{or_left, and_parts, both_ways, cond-false, eqb-true, false_from_ne_true}
use Rattle.std.proofs.lemmas.Bool.Decides.{nat_tests}
use Rattle.std.proofs.lemmas.List.Sums.{sum_by-cons}
use Rattle.vidi_bits.proofs.Each.{each_weaker, each_append}
use Rattle.vlog_lex.specs.Span.{Each}
use Rattle.vlog_lex.specs.Reading.{newlines}
use Rattle.vlog_lex.specs.Words.{symbols, is_symbol}
use Rattle.vlog_lex.specs.Lexeme.{begins_name, continues_name, is_digit_of, continues_digits, IsName, IsDigits, IsDecimal, IsToken}
use Rattle.vlog_lex.specs.declared.token.TokenKind.{TokenKind}
use Rattle.vlog_lex.specs.declared.token.TokenKind.TheVariants.{Identifier, Reserved, Decimal, Based, Other}
use Rattle.vlog_lex.proofs.Spans.{run_each}
use Rattle.vlog_lex.proofs.Longest.{holds_among}

abbrev pub is_solid : ℕ → Bool
is_solid b = nat_lt 32 b

each_solid : (p : ℕ → Bool) → ((b : ℕ) → p b ≡ true → is_solid b ≡ true) → (text : List ℕ) → Each p text → Each is_solid text
each_solid p h text each = each_weaker (λ b. IsTrue (p b)) (λ b. IsTrue (is_solid b)) h text each

pub list_test : (p : ℕ → Bool) (text : List ℕ) → list_all p text ≡ true → Each p text
list_test p [] h = tt
list_test p (b ∷ text) h =
    let parts = and_parts (p b) (list_all p text) h in
    (parts.0, list_test p text parts.1)

name_solid : (b : ℕ) → continues_name b ≡ true → is_solid b ≡ true
name_solid b h = grind (arith, nat_tests)

base_solid : (base b : ℕ) → is_digit_of base b ≡ true → is_solid base ≡ true
base_solid base b h = grind (arith, nat_tests)

digit_solid : (base b : ℕ) → continues_digits base b ≡ true → is_solid b ≡ true
digit_solid base b h = grind (arith, nat_tests)

names_solid : (text : List ℕ) → IsName text → Each is_solid text
names_solid text run =
    each_solid continues_name name_solid text (run_each begins_name continues_name text (λ b h. or_left (begins_name b) _ h) run)

digits_solid : (base : ℕ) (text : List ℕ) → IsDigits base text → Each is_solid text
digits_solid base text run =
    each_solid (continues_digits base) (digit_solid base) text
    (run_each (is_digit_of base) (continues_digits base) text (λ b h. or_left (is_digit_of base b) _ h) run)

value_solid : (base : ℕ) (digits : List ℕ) → IsDigits base digits → Each is_solid (39 ∷ base ∷ digits)
value_solid base [] run = absurd run
value_solid base (d ∷ digits) run = (refl, (base_solid base d run.0, digits_solid base (d ∷ digits) run))

size_solid : (size : List ℕ) → (size ≡ []) ⊎ IsDecimal size → Each is_solid size
size_solid size (inl none) = subst (Each is_solid) (sym none) tt
size_solid size (inr run) = digits_solid 100 size run

pub token_solid : (kind : TokenKind) (text : List ℕ) → IsToken kind text → Each is_solid text
unfolding is_symbol
token_solid Identifier text token = names_solid text token.0
token_solid Reserved text token = names_solid text token.0
token_solid Decimal text token = digits_solid 100 text token
token_solid Based text token =
    subst (Each is_solid) (sym token.spelled)
    (each_append (λ b. IsTrue (is_solid b)) token.size (39 ∷ token.base ∷ token.digits) (size_solid token.size token.sized)
    (value_solid token.base token.digits token.valued))
token_solid Other text token = list_test is_solid text (holds_among (λ t. list_all is_solid t) symbols text token refl)

abbrev newline_at : ℕ → ℕ
newline_at b = cond (b == 10) 1 0

no_newline_at : (b : ℕ) → is_solid b ≡ true → newline_at b ≡ 0
no_newline_at b solid =
    let P : ℕ → Type 0 = λ x. is_solid x ≡ true in
    let one : ℕ = 1 in
    cond-false (b == 10) one 0 (false_from_ne_true (b == 10) (λ h. both_ways _ refl (subst P (eqb-true b 10 h) solid)))

both_zero : {x y : ℕ} → x ≡ 0 → y ≡ 0 → x + y ≡ 0
both_zero a b = omega arith

no_newlines : (text : List ℕ) → Each is_solid text → newlines text ≡ 0
no_newlines [] each = refl
no_newlines (b ∷ text) each = sum_by-cons newline_at b text ∙ both_zero (no_newline_at b each.0) (no_newlines text each.1)

pub no_newline : (kind : TokenKind) (text : List ℕ) → IsToken kind text → newlines text ≡ 0
no_newline kind text token = no_newlines text (token_solid kind text token)
