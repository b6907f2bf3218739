-- What stands between tokens (IEEE 1364-2005, 3.2, 3.3, 19.2 and 19.8; this project's profile).
use Rattle.std.specs.Prelude.{◌≡◌, ℕ, Bool, IsTrue, List, [], ◌∷◌, ◌++◌, ◌==◌, ◌⊎◌, not, codes}
use Rattle.std.specs.Char.{is_ascii_whitespace}
use Rattle.vlog_lex.specs.Span.{IsSpan}
use Rattle.vlog_lex.specs.Words.{is_directive}
use Rattle.vlog_lex.specs.Lexeme.{continues_name}

abbrev pub is_no_newline : ℕ → Bool
is_no_newline b = not (b == 10)

-- the text is what is left of its line, without the newline
abbrev pub EndsLine : List ℕ → List ℕ → Type 0
EndsLine text rest = IsSpan is_no_newline text rest

-- 3.2: a space, tab, newline, carriage return or form feed
abbrev pub IsWhite : List ℕ → Type 0
IsWhite text = (b : ℕ) × (text ≡ b ∷ []) × IsTrue (is_ascii_whitespace b)

-- 3.3: from `//` to the end of the line
abbrev pub IsLineComment : List ℕ → List ℕ → Type 0
IsLineComment text rest = (body : List ℕ) × (text ≡ codes "//" ++ body) × EndsLine body rest

-- the text ends with its first `*/`
abbrev pub EndsComment : List ℕ → Type 0
EndsComment text = (body : List ℕ) × (text ≡ body ++ codes "*/")
    × ((before after : List ℕ) → text ≡ before ++ (codes "*/" ++ after) → after ≡ [])

-- 3.3: from `/*` to the next `*/`
abbrev pub IsBlockComment : List ℕ → Type 0
IsBlockComment text = (body : List ℕ) × (text ≡ codes "/*" ++ body) × EndsComment body

-- 19: a backtick, the whole word of a directive, and what is left of the line
pub record IsDirective (text rest : List ℕ) : Type 0 where
  pub word : List ℕ
  pub line : List ℕ
  pub spelled : text ≡ 96 ∷ (word ++ line)
  pub directive : IsTrue (is_directive word)
  pub whole : IsSpan continues_name word (line ++ rest)
  pub ends : EndsLine line rest

-- the text stands before the rest as white space, a comment or a directive's line
abbrev pub IsGap : List ℕ → List ℕ → Type 0
IsGap text rest = IsWhite text ⊎ (IsLineComment text rest ⊎ (IsBlockComment text ⊎ IsDirective text rest))
