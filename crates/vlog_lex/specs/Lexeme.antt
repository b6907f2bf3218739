-- The lawful tokens, kind by kind, as sets of texts (IEEE 1364-2005, clause 3, lexical conventions; this project's profile).
use Rattle.std.specs.Prelude.{◌≡◌, ◌≤◌, ℕ, Bool, IsTrue, List, [], ◌∷◌, ◌++◌, ◌||◌, ◌&&◌, ◌==◌, ◌⊎◌, length}
use Rattle.std.specs.Char.{is_ascii_digit, is_ascii_hexdigit, is_ascii_alphabetic}
use Rattle.std.specs.Int.{is_in_range}
use Rattle.vlog_lex.specs.Span.{IsRun}
use Rattle.vlog_lex.specs.Words.{is_reserved, is_symbol}
use Rattle.vlog_lex.specs.declared.token.TokenKind.{TokenKind}
use Rattle.vlog_lex.specs.declared.token.TokenKind.TheVariants.{Identifier, Reserved, Decimal, Based, Other}

-- a letter or `_`
abbrev pub begins_name : ℕ → Bool
begins_name b = is_ascii_alphabetic b || (b == 95)

-- a letter, a digit, `_` or `$`
abbrev pub continues_name : ℕ → Bool
continues_name b = begins_name b || (is_ascii_digit b || (b == 36))

-- 3.7: a letter or `_`, then letters, digits, `_` and `$`
abbrev pub IsName : List ℕ → Type 0
IsName text = IsRun begins_name continues_name text

-- 3.5.1: a digit of the base whose letter is given, in either case: b (98, 66), o (111, 79), d (100, 68) or h (104, 72)
abbrev pub is_digit_of : ℕ → ℕ → Bool
is_digit_of base b =
    (((base == 98) || (base == 66)) && is_in_range 48 49 b)
    || ((((base == 111) || (base == 79)) && is_in_range 48 55 b)
    || ((((base == 100) || (base == 68)) && is_ascii_digit b)
    || (((base == 104) || (base == 72)) && is_ascii_hexdigit b)))

-- a digit of the base, or `_`
abbrev pub continues_digits : ℕ → ℕ → Bool
continues_digits base b = is_digit_of base b || (b == 95)

-- a digit of the base, then digits of it and `_`
abbrev pub IsDigits : ℕ → List ℕ → Type 0
IsDigits base text = IsRun (is_digit_of base) (continues_digits base) text

-- 3.5.1: a digit, then digits and `_`
abbrev pub IsDecimal : List ℕ → Type 0
IsDecimal text = IsDigits 100 text

-- 3.5.1: perhaps an unsized decimal as size, then `'`, the letter of a base, and digits of that base
pub record IsBased (text : List ℕ) : Type 0 where
  pub size : List ℕ
  pub base : ℕ
  pub digits : List ℕ
  pub spelled : text ≡ size ++ 39 ∷ base ∷ digits
  pub sized : (size ≡ []) ⊎ IsDecimal size
  pub valued : IsDigits base digits

-- 3.4: an operator or punctuation
abbrev pub IsSymbol : List ℕ → Type 0
IsSymbol text = IsTrue (is_symbol text)

-- a lawful token of this kind; a reserved word is no identifier
abbrev pub IsToken : TokenKind → List ℕ → Type 0
IsToken Identifier text = IsName text × ¬ IsTrue (is_reserved text)
IsToken Reserved text = IsName text × IsTrue (is_reserved text)
IsToken Decimal text = IsDecimal text
IsToken Based text = IsBased text
IsToken Other text = IsSymbol text

-- the text is a token of this kind, and no longer front of the text and the rest is a token of any kind
pub record IsLongest (kind : TokenKind) (text rest : List ℕ) : Type 0 where
  pub token : IsToken kind text
  pub longest : (other : TokenKind) (front tail : List ℕ) → front ++ tail ≡ text ++ rest → IsToken other front → length front ≤ length text
