-- The words of which a tree is spelled, with the lines that it keeps, and their tokens.
use Rattle.std.specs.Prelude.{ℕ, List, codes, map}
use Rattle.vlog_lex.specs.declared.token.Token.{Token}
use Rattle.vlog_lex.specs.declared.token.TokenKind.{TokenKind}
use Rattle.vlog_lex.specs.declared.token.TokenKind.TheVariants.{Identifier, Reserved, Decimal, Based, Other}
use Rattle.vlog_tree.specs.declared.expr.NumberKind.{NumberKind}
use Rattle.vlog_tree.specs.declared.expr.NumberKind.TheVariants as number
use Rattle.vlog_tree.specs.declared.terminal.Terminal.{Terminal}
use Rattle.vlog_tree.specs.declared.terminal.Terminal.TheVariants.{Always, Assign, Begin, Case, Default, Else, End, Endcase, Endmodule}
use Rattle.vlog_tree.specs.declared.terminal.Terminal.TheVariants.{If, Input, Localparam, Module, Output, Parameter}
use Rattle.vlog_tree.specs.declared.terminal.Terminal.TheVariants.{Posedge, Reg, Wire, ParenOpen, ParenClose, BracketOpen, BracketClose}
use Rattle.vlog_tree.specs.declared.terminal.Terminal.TheVariants.{BraceOpen, BraceClose, Semicolon, Comma, Dot, Colon, Question, Hash}
use Rattle.vlog_tree.specs.declared.terminal.Terminal.TheVariants.{At, Equals}
use Rattle.vlog_tree.specs.declared.terminal.Terminal.TheVariants.{Plus, Minus, Star, Bang, Tilde, Ampersand, Bar, Caret, Less, Greater}
use Rattle.vlog_tree.specs.declared.terminal.Terminal.TheVariants.{LessEquals, GreaterEquals, EqualsEquals, BangEquals}
use Rattle.vlog_tree.specs.declared.terminal.Terminal.TheVariants.{AmpersandAmpersand}
use Rattle.vlog_tree.specs.declared.terminal.Terminal.TheVariants.{BarBar, LessLess, GreaterGreater, LessLessLess, GreaterGreaterGreater}
use Rattle.vlog_tree.specs.declared.terminal.Terminal.TheVariants.{TildeAmpersand, TildeBar, TildeCaret, CaretTilde, PlusColon}

abbrev pub terminal_kind : Terminal → TokenKind
terminal_kind Always = Reserved
terminal_kind Assign = Reserved
terminal_kind Begin = Reserved
terminal_kind Case = Reserved
terminal_kind Default = Reserved
terminal_kind Else = Reserved
terminal_kind End = Reserved
terminal_kind Endcase = Reserved
terminal_kind Endmodule = Reserved
terminal_kind If = Reserved
terminal_kind Input = Reserved
terminal_kind Localparam = Reserved
terminal_kind Module = Reserved
terminal_kind Output = Reserved
terminal_kind Parameter = Reserved
terminal_kind Posedge = Reserved
terminal_kind Reg = Reserved
terminal_kind Wire = Reserved
terminal_kind _ = Other

abbrev pub terminal_text : Terminal → List ℕ
terminal_text Always = codes "always"
terminal_text Assign = codes "assign"
terminal_text Begin = codes "begin"
terminal_text Case = codes "case"
terminal_text Default = codes "default"
terminal_text Else = codes "else"
terminal_text End = codes "end"
terminal_text Endcase = codes "endcase"
terminal_text Endmodule = codes "endmodule"
terminal_text If = codes "if"
terminal_text Input = codes "input"
terminal_text Localparam = codes "localparam"
terminal_text Module = codes "module"
terminal_text Output = codes "output"
terminal_text Parameter = codes "parameter"
terminal_text Posedge = codes "posedge"
terminal_text Reg = codes "reg"
terminal_text Wire = codes "wire"
terminal_text ParenOpen = codes "("
terminal_text ParenClose = codes ")"
terminal_text BracketOpen = codes "["
terminal_text BracketClose = codes "]"
terminal_text BraceOpen = codes "{"
terminal_text BraceClose = codes "}"
terminal_text Semicolon = codes ";"
terminal_text Comma = codes ","
terminal_text Dot = codes "."
terminal_text Colon = codes ":"
terminal_text Question = codes "?"
terminal_text Hash = codes "#"
terminal_text At = codes "@"
terminal_text Equals = codes "="
terminal_text Plus = codes "+"
terminal_text Minus = codes "-"
terminal_text Star = codes "*"
terminal_text Bang = codes "!"
terminal_text Tilde = codes "~"
terminal_text Ampersand = codes "&"
terminal_text Bar = codes "|"
terminal_text Caret = codes "^"
terminal_text Less = codes "<"
terminal_text Greater = codes ">"
terminal_text LessEquals = codes "<="
terminal_text GreaterEquals = codes ">="
terminal_text EqualsEquals = codes "=="
terminal_text BangEquals = codes "!="
terminal_text AmpersandAmpersand = codes "&&"
terminal_text BarBar = codes "||"
terminal_text LessLess = codes "<<"
terminal_text GreaterGreater = codes ">>"
terminal_text LessLessLess = codes "<<<"
terminal_text GreaterGreaterGreater = codes ">>>"
terminal_text TildeAmpersand = codes "~&"
terminal_text TildeBar = codes "~|"
terminal_text TildeCaret = codes "~^"
terminal_text CaretTilde = codes "^~"
terminal_text PlusColon = codes "+:"

abbrev pub number_kind : NumberKind → TokenKind
number_kind number.Decimal = Decimal
number_kind number.Based = Based

-- a word of a tree; A is the type of what stands in the place of a line
pub data WordOf (A : Type 0) : Type 0 where
  -- words whose line no tree keeps
  NameWord : List ℕ → WordOf A
  Fixed : Terminal → WordOf A
  -- words with their line
  NameAt : List ℕ → A → WordOf A
  NumberAt : NumberKind → List ℕ → A → WordOf A
  FixedAt : Terminal → A → WordOf A

-- its token; lines don't count, so it has line 0
abbrev pub token_of : {A : Type 0} → WordOf A → Token
token_of (NameWord text) = record { kind = Identifier; text = text; line = 0 }
token_of (Fixed t) = record { kind = terminal_kind t; text = terminal_text t; line = 0 }
token_of (NameAt text line) = record { kind = Identifier; text = text; line = 0 }
token_of (NumberAt kind text line) = record { kind = number_kind kind; text = text; line = 0 }
token_of (FixedAt t line) = record { kind = terminal_kind t; text = terminal_text t; line = 0 }

abbrev pub tokens_of : {A : Type 0} → List (WordOf A) → List Token
tokens_of words = map token_of words

abbrev pub map_word : {A B : Type 0} → (A → B) → WordOf A → WordOf B
map_word f (NameWord text) = NameWord text
map_word f (Fixed t) = Fixed t
map_word f (NameAt text line) = NameAt text (f line)
map_word f (NumberAt kind text line) = NumberAt kind text (f line)
map_word f (FixedAt t line) = FixedAt t (f line)
