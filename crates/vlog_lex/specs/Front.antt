-- How long a front of a byte list is, by what it is a front of.
use Rattle.std.specs.Prelude.{◌≡◌, ◌<◌, ◌≤◌, ℕ, List, ◌++◌, ◌&&◌, Bool, nat_le, Option, Some, None, length, take, drop}
use Rattle.vlog_lex.specs.Words.{is_symbol}
use Rattle.vlog_lex.specs.Lexeme.{IsToken, IsLongest}
use Rattle.vlog_lex.specs.declared.token.TokenKind.{TokenKind}

-- n is the length of the longest front that is in the set, or 0 where none is
pub record IsLongestFront (set : List ℕ → Type 0) (n : ℕ) (bytes : List ℕ) : Type 0 where
  pub fits : n ≤ length bytes
  pub found : 0 < n → set (take n bytes)
  pub longest : (front tail : List ℕ) → front ++ tail ≡ bytes → set front → length front ≤ n

-- n is the length of a front that stands before what follows it as the relation says, or 0 where none does
pub record IsFrontBefore (relation : List ℕ → List ℕ → Type 0) (n : ℕ) (bytes : List ℕ) : Type 0 where
  pub fits : n ≤ length bytes
  pub found : 0 < n → relation (take n bytes) (drop n bytes)
  pub none : n ≡ 0 → (front tail : List ℕ) → front ++ tail ≡ bytes → ¬ relation front tail

-- the kind and the length of the longest token at the front, or that no front is a token
abbrev pub IsNextToken : Option (TokenKind × ℕ) → List ℕ → Type 0
IsNextToken None bytes = (kind : TokenKind) (front tail : List ℕ) → front ++ tail ≡ bytes → ¬ IsToken kind front
IsNextToken (Some found) bytes = (found.1 ≤ length bytes) × IsLongest found.0 (take found.1 bytes) (drop found.1 bytes)

-- the first n bytes are a symbol
abbrev pub has_symbol : List ℕ → ℕ → Bool
has_symbol bytes n = nat_le n (length bytes) && is_symbol (take n bytes)
