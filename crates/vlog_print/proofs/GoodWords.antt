-- The tokens of a tree of good shape are lawful.
use Rattle.std.proofs.Common.{◌≡◌, ℕ, Bool, true, false, ◌&&◌, List, [], ◌∷◌, refl}
use Rattle.std.specs.List.{AllByRecursion, list_all}
use Rattle.std.proofs.lemmas.Bool.{and_parts}
use Rattle.vlog_parse.specs.vlog_lex.declared.token.Token.{Token}
use Rattle.vlog_parse.specs.vlog_lex.Words.{is_reserved, is_symbol}
use Rattle.vlog_parse.specs.vlog_lex.Lexeme.{begins_name, continues_name, IsName, IsToken}
use Rattle.vlog_tree.specs.declared.terminal.Terminal.{Terminal}
use Rattle.vlog_tree.specs.declared.terminal.Terminal.TheVariants as t
use Rattle.vlog_tree.specs.Words.{WordOf, NameWord, Fixed, NameAt, NumberAt, FixedAt, token_of, tokens_of, terminal_kind, terminal_text}
use Rattle.vlog_tree.specs.Tree.{FileOf}
use Rattle.vlog_tree.specs.Spelling.{toks, file_words}
use Rattle.vlog_tree.specs.Shape.{IsGood}
use Rattle.vlog_parse.proofs.vlog_expr_lemmas.Whole.{IsLawfulWord, AreLawfulWords}
use Rattle.vlog_parse.proofs.FileWhole.{file_lawful}
use Rattle.vlog_parse.proofs.vlog_lex_lemmas.Solid.{list_test}

abbrev pub AreTokens : List Token → Type 0
AreTokens ts = AllByRecursion (λ (t : Token). IsToken t.kind t.text) ts

abbrev name_test : List ℕ → Bool
name_test [] = false
name_test (b ∷ text) = begins_name b && list_all continues_name text

name_from : (text : List ℕ) → name_test text ≡ true → IsName text
name_from [] h = absurd (cc)
name_from (b ∷ text) h =
    let parts = and_parts (begins_name b) (list_all continues_name text) h in
    (parts.0, list_test continues_name text parts.1)

-- the words and symbols of the grammar
terminal_token : (x : Terminal) → IsToken (terminal_kind x) (terminal_text x)
unfolding is_reserved is_symbol
terminal_token t.Always = (name_from (terminal_text t.Always) refl, refl)
terminal_token t.Assign = (name_from (terminal_text t.Assign) refl, refl)
terminal_token t.Begin = (name_from (terminal_text t.Begin) refl, refl)
terminal_token t.Case = (name_from (terminal_text t.Case) refl, refl)
terminal_token t.Default = (name_from (terminal_text t.Default) refl, refl)
terminal_token t.Else = (name_from (terminal_text t.Else) refl, refl)
terminal_token t.End = (name_from (terminal_text t.End) refl, refl)
terminal_token t.Endcase = (name_from (terminal_text t.Endcase) refl, refl)
terminal_token t.Endmodule = (name_from (terminal_text t.Endmodule) refl, refl)
terminal_token t.If = (name_from (terminal_text t.If) refl, refl)
terminal_token t.Input = (name_from (terminal_text t.Input) refl, refl)
terminal_token t.Localparam = (name_from (terminal_text t.Localparam) refl, refl)
terminal_token t.Module = (name_from (terminal_text t.Module) refl, refl)
terminal_token t.Output = (name_from (terminal_text t.Output) refl, refl)
terminal_token t.Parameter = (name_from (terminal_text t.Parameter) refl, refl)
terminal_token t.Posedge = (name_from (terminal_text t.Posedge) refl, refl)
terminal_token t.Reg = (name_from (terminal_text t.Reg) refl, refl)
terminal_token t.Wire = (name_from (terminal_text t.Wire) refl, refl)
terminal_token t.ParenOpen = refl
terminal_token t.ParenClose = refl
terminal_token t.BracketOpen = refl
terminal_token t.BracketClose = refl
terminal_token t.BraceOpen = refl
terminal_token t.BraceClose = refl
terminal_token t.Semicolon = refl
terminal_token t.Comma = refl
terminal_token t.Dot = refl
terminal_token t.Colon = refl
terminal_token t.Question = refl
terminal_token t.Hash = refl
terminal_token t.At = refl
terminal_token t.Equals = refl
terminal_token t.Plus = refl
terminal_token t.Minus = refl
terminal_token t.Star = refl
terminal_token t.Bang = refl
terminal_token t.Tilde = refl
terminal_token t.Ampersand = refl
terminal_token t.Bar = refl
terminal_token t.Caret = refl
terminal_token t.Less = refl
terminal_token t.Greater = refl
terminal_token t.LessEquals = refl
terminal_token t.GreaterEquals = refl
terminal_token t.EqualsEquals = refl
terminal_token t.BangEquals = refl
terminal_token t.AmpersandAmpersand = refl
terminal_token t.BarBar = refl
terminal_token t.LessLess = refl
terminal_token t.GreaterGreater = refl
terminal_token t.LessLessLess = refl
terminal_token t.GreaterGreaterGreater = refl
terminal_token t.TildeAmpersand = refl
terminal_token t.TildeBar = refl
terminal_token t.TildeCaret = refl
terminal_token t.CaretTilde = refl
terminal_token t.PlusColon = refl

word_token : (w : WordOf ℕ) → IsLawfulWord w → IsToken (token_of w).kind (token_of w).text
word_token (NameWord text) h = h
word_token (Fixed x) h = terminal_token x
word_token (NameAt text line) h = h
word_token (NumberAt kind text line) h = h
word_token (FixedAt x line) h = terminal_token x

tokens : (ws : List (WordOf ℕ)) → AreLawfulWords ws → AreTokens (tokens_of ws)
tokens [] h = tt
tokens (w ∷ ws) h = (word_token w h.0, tokens ws h.1)

pub good_tokens : (f : FileOf ℕ) → IsGood f → AreTokens (toks f)
good_tokens f h = tokens (file_words f) (file_lawful ℕ f h)
