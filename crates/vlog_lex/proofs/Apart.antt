-- No byte begins both a gap and a token.
use Rattle.std.proofs.Common.{◌≡◌, ℕ, Bool, true, false, not, List, [], ◌∷◌, ◌++◌, ◌⊎◌, ◌==◌, ◌||◌, inl, inr, sym, refl, ap, ◌∙◌, arith}
use Rattle.std.specs.Char.{is_ascii_whitespace}
use Rattle.std.proofs.lemmas.Bool.{both_ways, or_left, not-true}
use Rattle.std.proofs.lemmas.Bool.Decides.{nat_tests}
use Rattle.vlog_lex.specs.Words.{symbols, is_symbol}
use Rattle.vlog_lex.specs.Lexeme.{begins_name, is_digit_of, IsName, IsDecimal, IsToken}
use Rattle.vlog_lex.specs.Gap.{IsGap}
use Rattle.vlog_lex.specs.declared.token.TokenKind.{TokenKind}
use Rattle.vlog_lex.specs.declared.token.TokenKind.TheVariants.{Identifier, Reserved, Decimal, Based, Other}
use Rattle.vlog_lex.proofs.Longest.{holds_among, token_some}

-- white space, a backtick or `/`
abbrev opens_gap : ℕ → Bool
opens_gap b = is_ascii_whitespace b || ((b == 96) || (b == 47))

abbrev opens : List ℕ → Bool
opens [] = false
opens (b ∷ bs) = opens_gap b

gap_opens : (text rest : List ℕ) → IsGap text rest → opens (text ++ rest) ≡ true
gap_opens text rest (inl white) = ap (λ t. opens (t ++ rest)) white.1 ∙ or_left (is_ascii_whitespace white.0) _ white.2
gap_opens text rest (inr (inl line)) = ap (λ t. opens (t ++ rest)) line.1
gap_opens text rest (inr (inr (inl block))) = ap (λ t. opens (t ++ rest)) block.1
gap_opens text rest (inr (inr (inr directive))) = ap (λ t. opens (t ++ rest)) directive.spelled

name_byte : (b : ℕ) → begins_name b ≡ true → opens_gap b ≡ false
name_byte b h = grind (arith, nat_tests)

digit_byte : (b : ℕ) → is_digit_of 100 b ≡ true → opens_gap b ≡ false
digit_byte b h = grind (arith, nat_tests)

name_opens : (text rest : List ℕ) → IsName text → opens (text ++ rest) ≡ false
name_opens [] rest run = absurd run
name_opens (b ∷ text) rest run = name_byte b run.0

decimal_opens : (text rest : List ℕ) → IsDecimal text → opens (text ++ rest) ≡ false
decimal_opens [] rest run = absurd run
decimal_opens (b ∷ text) rest run = digit_byte b run.0

based_opens : (size rest more : List ℕ) → (size ≡ []) ⊎ IsDecimal size → opens ((size ++ 39 ∷ more) ++ rest) ≡ false
based_opens [] rest more sized = refl
based_opens (b ∷ size) rest more (inl none) = absurd (cc)
based_opens (b ∷ size) rest more (inr run) = digit_byte b run.0

symbol_opens : (text rest : List ℕ) → is_symbol text ≡ true → opens text ≡ false
unfolding is_symbol
symbol_opens text rest h = not-true _ (holds_among (λ t. not (opens t)) symbols text h refl)

token_opens : (kind : TokenKind) (text rest : List ℕ) → IsToken kind text → opens (text ++ rest) ≡ false
token_opens Identifier text rest token = name_opens text rest token.0
token_opens Reserved text rest token = name_opens text rest token.0
token_opens Decimal text rest token = decimal_opens text rest token
token_opens Based text rest token = ap (λ t. opens (t ++ rest)) token.spelled
    ∙ based_opens token.size rest (token.base ∷ token.digits) token.sized
token_opens Other [] rest token = absurd (omega (arith, token_some Other [] token))
token_opens Other (b ∷ text) rest token = symbol_opens (b ∷ text) rest token

pub gap_no_token : (t a : List ℕ) (kind : TokenKind) (u b : List ℕ) → IsGap t a → IsToken kind u → t ++ a ≡ u ++ b → ⊥
gap_no_token t a kind u b gap token e = both_ways _ (token_opens kind u b token) (sym (ap opens e) ∙ gap_opens t a gap)
