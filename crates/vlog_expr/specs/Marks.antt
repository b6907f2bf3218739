-- Tokens with a mark in the place of their lines, and the words that stand at their front.
use Rattle.std.specs.Prelude.{◌≡◌, if◌then◌else◌, ℕ, Bool, true, false, List, [], ◌∷◌, ◌&&◌, Option, None, Some, map}
use Rattle.std.specs.Str.{bytes_eq}
use Rattle.vlog_tree.specs.vlog_lex.declared.token.Token.{Token}
use Rattle.vlog_tree.specs.vlog_lex.declared.token.TokenKind.{TokenKind}
use Rattle.vlog_tree.specs.vlog_lex.declared.token.TokenKind.TheVariants.{Identifier, Reserved, Decimal, Based, Other}
use Rattle.vlog_tree.specs.vlog_lex.Lexeme.{IsToken}
use Rattle.vlog_tree.specs.declared.expr.NumberKind.{NumberKind}
use Rattle.vlog_tree.specs.declared.expr.NumberKind.TheVariants as number
use Rattle.vlog_tree.specs.declared.expr.UnaryOp.{UnaryOp}
use Rattle.vlog_tree.specs.declared.expr.UnaryOp.TheVariants as unary
use Rattle.vlog_tree.specs.declared.expr.BinaryOp.{BinaryOp}
use Rattle.vlog_tree.specs.declared.expr.BinaryOp.TheVariants as binary
use Rattle.vlog_tree.specs.declared.terminal.Terminal.{Terminal}
use Rattle.vlog_tree.specs.Tree.{IdentOf, NumberOf}
use Rattle.vlog_tree.specs.Words.{WordOf, NameWord, Fixed, NameAt, NumberAt, FixedAt, number_kind, terminal_kind, terminal_text}
use Rattle.vlog_tree.specs.Spelling.{unary_terminal, binary_terminal}

-- a token; A is the type of what stands in the place of its line
pub record TokenOf (A : Type 0) : Type 0 where
  pub kind : TokenKind
  pub text : List ℕ
  pub line : A

abbrev pub Toks : Type 0 → Type 0
Toks A = List (TokenOf A)

abbrev pub marked : Token → TokenOf ℕ
marked t = record { kind = t.kind; text = t.text; line = t.line }

abbrev pub all_marked : List Token → Toks ℕ
all_marked ts = map marked ts

-- a word's token, with this line where the tree keeps none
abbrev pub spelled : {A : Type 0} → A → WordOf A → TokenOf A
spelled other (NameWord text) = record { kind = Identifier; text = text; line = other }
spelled other (Fixed t) = record { kind = terminal_kind t; text = terminal_text t; line = other }
spelled other (NameAt text line) = record { kind = Identifier; text = text; line = line }
spelled other (NumberAt kind text line) = record { kind = number_kind kind; text = text; line = line }
spelled other (FixedAt t line) = record { kind = terminal_kind t; text = terminal_text t; line = line }

-- the words' tokens before others
abbrev pub spell : {A : Type 0} → A → List (WordOf A) → Toks A → Toks A
spell other [] rest = rest
spell other (w ∷ ws) rest = spelled other w ∷ spell other ws rest

-- the token is this word: kinds and texts agree, and a line that the tree keeps is the token's
abbrev pub IsWord : {A : Type 0} → WordOf A → TokenOf A → Type 0
IsWord w token = token ≡ spelled token.line w

-- the tokens are these words, and then the rest
abbrev pub AreWords : {A : Type 0} → List (WordOf A) → Toks A → Toks A → Type 0
AreWords [] tokens rest = tokens ≡ rest
AreWords (w ∷ ws) [] rest = ⊥
AreWords (w ∷ ws) (token ∷ tokens) rest = IsWord w token × AreWords ws tokens rest

-- a name or a number is a lawful token of its kind
abbrev pub IsLawfulText : TokenKind → List ℕ → Type 0
IsLawfulText Identifier text = IsToken Identifier text
IsLawfulText Reserved text = Unit {0}
IsLawfulText Decimal text = IsToken Decimal text
IsLawfulText Based text = IsToken Based text
IsLawfulText Other text = Unit {0}

abbrev pub AreLawful : {A : Type 0} → Toks A → Type 0
AreLawful [] = Unit {0}
AreLawful (t ∷ ts) = IsLawfulText t.kind t.text × AreLawful ts

abbrev pub same_kind : TokenKind → TokenKind → Bool
same_kind Identifier Identifier = true
same_kind Reserved Reserved = true
same_kind Decimal Decimal = true
same_kind Based Based = true
same_kind Other Other = true
same_kind _ _ = false

abbrev pub is_terminal : {A : Type 0} → Terminal → TokenOf A → Bool
is_terminal t token = same_kind token.kind (terminal_kind t) && bytes_eq token.text (terminal_text t)

-- the mark of a terminal at the front, and what is behind it
abbrev pub after : {A : Type 0} → Terminal → Toks A → Option (A × Toks A)
after t [] = None
after t (token ∷ rest) = if is_terminal t token then Some (token.line, rest) else None

abbrev pub is_name : TokenKind → Bool
is_name kind = same_kind kind Identifier

-- a name at the front
abbrev pub name_front : {A : Type 0} → Toks A → Option (IdentOf A × Toks A)
name_front [] = None
name_front (token ∷ rest) = if is_name token.kind then Some (record { name = token.text; line = token.line }, rest) else None

abbrev pub number_of : TokenKind → Option NumberKind
number_of Decimal = Some number.Decimal
number_of Based = Some number.Based
number_of _ = None

abbrev pub number_with : {A : Type 0} → TokenOf A → Toks A → Option NumberKind → Option (NumberOf A × Toks A)
number_with token rest None = None
number_with token rest (Some kind) = Some (record { kind = kind; text = token.text; line = token.line }, rest)

-- a number at the front
abbrev pub number_front : {A : Type 0} → Toks A → Option (NumberOf A × Toks A)
number_front [] = None
number_front (token ∷ rest) = number_with token rest (number_of token.kind)

abbrev pub unary_operators : List UnaryOp
unary_operators =
    unary.Plus ∷ unary.Minus ∷ unary.LogicalNot ∷ unary.BitNot ∷ unary.And ∷ unary.Nand ∷ unary.Or ∷ unary.Nor ∷ unary.Xor ∷ unary.TildeXor
    ∷ unary.XorTilde ∷ []

abbrev pub binary_operators : List BinaryOp
binary_operators =
    binary.LogicalOr ∷ binary.LogicalAnd ∷ binary.Or ∷ binary.Xor ∷ binary.XorTilde ∷ binary.TildeXor ∷ binary.And ∷ binary.Equal
    ∷ binary.NotEqual ∷
    binary.Less ∷ binary.LessOrEqual ∷ binary.Greater ∷ binary.GreaterOrEqual ∷ binary.ShiftLeft ∷ binary.ShiftRight
    ∷ binary.ArithmeticShiftLeft ∷
    binary.ArithmeticShiftRight ∷ binary.Plus ∷ binary.Minus ∷ binary.Times ∷ []

-- the operator with this text
abbrev pub operator_among : {Op : Type 0} → (Op → Terminal) → List Op → List ℕ → Option Op
operator_among terminal [] text = None
operator_among terminal (op ∷ ops) text = if bytes_eq text (terminal_text (terminal op)) then Some op else operator_among terminal ops text

abbrev pub operator_of : {Op : Type 0} → (Op → Terminal) → List Op → TokenKind → List ℕ → Option Op
operator_of terminal ops kind text = if same_kind kind Other then operator_among terminal ops text else None

abbrev pub unary_of : TokenKind → List ℕ → Option UnaryOp
unary_of kind text = operator_of unary_terminal unary_operators kind text

abbrev pub binary_of : TokenKind → List ℕ → Option BinaryOp
binary_of kind text = operator_of binary_terminal binary_operators kind text
