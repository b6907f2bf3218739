-- The three limits of a design text (this project's profile): what is open, tokens without a cut, and `else` in one `always`.
use Rattle.std.specs.Prelude.{◌≡◌, if◌then◌else◌, ℕ, zero, suc, ◌≤◌, ◌<◌, leb, Bool, true, false, ◌&&◌, ◌||◌, ◌⊎◌, List, [], ◌∷◌, ◌++◌, All}
use Rattle.std.specs.Prelude.{codes, count_by, length, nat_lt}
use Rattle.std.specs.Str.{bytes_eq}
use Rattle.vlog_item.specs.vlog_lex.declared.token.TokenKind.TheVariants.{Reserved, Other}
use Rattle.vlog_item.specs.vlog_expr.Marks.{TokenOf, Toks, same_kind}

abbrev pub is_word : {A : Type 0} → List ℕ → TokenOf A → Bool
is_word text x = same_kind x.kind Reserved && bytes_eq x.text text

abbrev pub is_symbol : {A : Type 0} → List ℕ → TokenOf A → Bool
is_symbol text x = same_kind x.kind Other && bytes_eq x.text text

-- `(`, `[`, `{`, `begin`, `case`
abbrev pub opens : {A : Type 0} → TokenOf A → Bool
opens x = is_symbol (codes "(") x || is_symbol (codes "[") x || is_symbol (codes "{") x || is_word (codes "begin") x
    || is_word (codes "case") x

-- `)`, `]`, `}`, `end`, `endcase`
abbrev pub closes : {A : Type 0} → TokenOf A → Bool
closes x = is_symbol (codes ")") x || is_symbol (codes "]") x || is_symbol (codes "}") x || is_word (codes "end") x
    || is_word (codes "endcase") x

abbrev pub one_less : ℕ → ℕ
one_less zero = zero
one_less (suc n) = n

-- how many are open at a token, where n are open before it
abbrev pub open_at : {A : Type 0} → ℕ → TokenOf A → ℕ
open_at n x = if opens x then suc n else if closes x then one_less n else n

-- how many are open behind these tokens, where n are open before them
abbrev pub open_behind : {A : Type 0} → ℕ → Toks A → ℕ
open_behind n [] = n
open_behind n (x ∷ xs) = open_behind (open_at n x) xs

-- a `;`, an `endmodule`, or a `,` at which at most one is open
abbrev pub is_cut : {A : Type 0} → ℕ → TokenOf A → Bool
is_cut n x = is_symbol (codes ";") x || is_word (codes "endmodule") x || (is_symbol (codes ",") x && leb n 1)

-- none of these tokens is a cut, where n are open before them
abbrev pub HaveNoCut : {A : Type 0} → ℕ → Toks A → Type 0
HaveNoCut n [] = Unit {0}
HaveNoCut n (x ∷ xs) = (is_cut (open_at n x) x ≡ false) × HaveNoCut (open_at n x) xs

abbrev pub is_else : {A : Type 0} → TokenOf A → Bool
is_else x = is_word (codes "else") x

abbrev pub IsNoAlways : {A : Type 0} → TokenOf A → Type 0
IsNoAlways x = is_word (codes "always") x ≡ false

-- more than 32 are open at the token
abbrev pub IsOpenTooDeep : {A : Type 0} → Toks A → TokenOf A → Type 0
IsOpenTooDeep before x = 32 < open_at (open_behind 0 before) x

-- 1,024 tokens without a cut stand before the token
abbrev pub EndsLongRun : {A : Type 0} → Toks A → Type 0
EndsLongRun {A} before = (front : Toks A) × (run : Toks A) × (before ≡ front ++ run) × (length run ≡ 1024)
    × HaveNoCut (open_behind 0 front) run

-- the token is an `else`, and 1,024 stand before it without an `always` between them
abbrev pub IsElseTooMany : {A : Type 0} → Toks A → TokenOf A → Type 0
IsElseTooMany {A} before x = (is_else x ≡ true) × ((front : Toks A) × (run : Toks A) × (before ≡ front ++ run) × All IsNoAlways run
    × (1024 ≤ count_by is_else run))

-- a limit is passed at the token behind these
abbrev pub Passes : {A : Type 0} → Toks A → TokenOf A → Type 0
Passes before x = IsOpenTooDeep before x ⊎ (EndsLongRun before ⊎ IsElseTooMany before x)

-- the token behind `before` is the first at which a limit is passed, and this is its line
pub record IsFirstDeep {A : Type 0} (ws : Toks A) (line : A) (before : Toks A) : Type 0 where
  pub token : TokenOf A
  pub rest : Toks A
  pub parts : ws ≡ before ++ token ∷ rest
  pub passes : Passes before token
  pub first : (b : Toks A) (x : TokenOf A) (r : Toks A) → ws ≡ b ++ x ∷ r → length b < length before → Passes b x → ⊥
  pub its_line : token.line ≡ line

-- a limit is passed, first at a token with this line
abbrev pub IsDeep : {A : Type 0} → Toks A → A → Type 0
IsDeep {A} ws line = (before : Toks A) × IsFirstDeep ws line before

-- no limit is passed at any token
abbrev pub IsShallow : {A : Type 0} → Toks A → Type 0
IsShallow {A} ws = (b : Toks A) (x : TokenOf A) (r : Toks A) → ws ≡ b ++ x ∷ r → Passes b x → ⊥

-- a limit is first passed on one line, or nowhere
pub record OneDepth (A : Type 0) : Type 0 where
  pub line : (ws : Toks A) (a b : A) → IsDeep ws a → IsDeep ws b → a ≡ b
  pub apart : (ws : Toks A) (a : A) → IsDeep ws a → IsShallow ws → ⊥

-- ---- what the stack has room for

-- how many tokens stand outside of brackets since the last cut there, where so many stood before a token at which n are open
abbrev pub outside_at : {A : Type 0} → ℕ → ℕ → TokenOf A → ℕ
outside_at before n x = if nat_lt 0 n then before else if is_cut n x then 0 else suc before

-- where n are open and so many stand outside, more than 2,048 come to stand there with no cut there between them
abbrev pub overruns : {A : Type 0} → ℕ → ℕ → Toks A → Bool
overruns n before [] = false
overruns n before (x ∷ xs) = nat_lt 2048 (outside_at before (open_at n x) x)
    || overruns (open_at n x) (outside_at before (open_at n x) x) xs
