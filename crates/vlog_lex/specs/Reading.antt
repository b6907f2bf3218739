-- *Tokens*: a byte list cut into gaps and longest tokens.
use Rattle.std.specs.Prelude.{◌≡◌, ◌≢◌, ℕ, ◌+◌, ◌-◌, List, [], ◌∷◌, ◌++◌, ◌==◌, Result, Ok, Err, count_by, length, take}
use Rattle.vlog_lex.specs.declared.token.Token.{Token}
use Rattle.vlog_lex.specs.declared.token.TokenKind.{TokenKind}
use Rattle.vlog_lex.specs.declared.error.LexError.{LexError}
use Rattle.vlog_lex.specs.declared.error.LexError.TheVariants.{Word, Memory}
use Rattle.vlog_lex.specs.Lexeme.{IsToken, IsLongest}
use Rattle.vlog_lex.specs.Gap.{IsGap}

pub data Piece : Type 0 where
  Gap : List ℕ → Piece
  Lexeme : TokenKind → List ℕ → Piece

abbrev pub text_of : Piece → List ℕ
text_of (Gap text) = text
text_of (Lexeme kind text) = text

-- a piece is lawful before what follows it
abbrev pub IsPiece : Piece → List ℕ → Type 0
IsPiece (Gap text) rest = IsGap text rest
IsPiece (Lexeme kind text) rest = IsLongest kind text rest

-- the bytes are these pieces, each lawful before what follows it, and then the rest
abbrev pub Leads : List Piece → List ℕ → List ℕ → Type 0
Leads [] bytes rest = bytes ≡ rest
Leads (piece ∷ pieces) bytes rest =
    (after : List ℕ) × (bytes ≡ text_of piece ++ after) × IsPiece piece after × Leads pieces after rest

abbrev pub newlines : List ℕ → ℕ
newlines text = count_by (λ b. b == 10) text

-- the token that a piece is on this line; a gap is dropped
abbrev pub token_of : ℕ → Piece → List Token
token_of line (Gap text) = []
token_of line (Lexeme kind text) = record { kind = kind; text = text; line = line } ∷ []

-- the tokens of the pieces, from this line on
abbrev pub tokens_of : ℕ → List Piece → List Token
tokens_of line [] = []
tokens_of line (piece ∷ pieces) = token_of line piece ++ tokens_of (line + newlines (text_of piece)) pieces

-- the tokens of all the bytes
abbrev pub HasTokens : List ℕ → List Token → Type 0
HasTokens bytes tokens = (pieces : List Piece) × Leads pieces bytes [] × (tokens ≡ tokens_of 1 pieces)

-- `Word`: a place is reached at which neither a gap nor a token begins
pub record IsStuck (bytes : List ℕ) : Type 0 where
  pub pieces : List Piece
  pub rest : List ℕ
  pub leads : Leads pieces bytes rest
  pub some : rest ≢ []
  pub no_gap : (text after : List ℕ) → text ++ after ≡ rest → ¬ IsGap text after
  pub no_token : (kind : TokenKind) (text after : List ℕ) → text ++ after ≡ rest → ¬ IsToken kind text

-- the line of the place at which the rest begins: 1 plus the newlines before it
abbrev pub line_before : List ℕ → List ℕ → ℕ
line_before bytes rest = 1 + newlines (take (length bytes - length rest) bytes)

-- such a place is reached on this line
abbrev pub IsStuckOn : List ℕ → ℕ → Type 0
IsStuckOn bytes line = (stuck : IsStuck bytes) × (line ≡ line_before bytes stuck.rest)

-- what `lex` answers for these bytes
abbrev pub Lexes : List ℕ → Result (List Token) LexError → Type 0
Lexes bytes (Ok tokens) = HasTokens bytes tokens
Lexes bytes (Err (Word line)) = IsStuckOn bytes line
Lexes bytes (Err Memory) = Unit {0}

-- no bytes have two lists of tokens
abbrev pub OneReading : Type 0
OneReading = (bytes : List ℕ) (ts us : List Token) → HasTokens bytes ts → HasTokens bytes us → ts ≡ us

-- bytes are stuck on one line
abbrev pub OneStuckLine : Type 0
OneStuckLine = (bytes : List ℕ) (a b : ℕ) → IsStuckOn bytes a → IsStuckOn bytes b → a ≡ b

-- no bytes both have tokens and are stuck
abbrev pub ReadOrStuck : Type 0
ReadOrStuck = (bytes : List ℕ) (ts : List Token) → HasTokens bytes ts → ¬ IsStuck bytes
