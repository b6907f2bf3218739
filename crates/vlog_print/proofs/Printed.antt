-- The printed text of lawful tokens has these tokens, so that of a tree of good shape has the tree's.
use Rattle.std.proofs.Common.{◌≡◌, ℕ, ◌+◌, Bool, true, false, if◌then◌else◌, List, [], ◌∷◌, inl, refl, ap, ◌∙◌, append_assoc}
use Rattle.vlog_parse.specs.vlog_lex.declared.token.Token.{Token}
use Rattle.vlog_parse.specs.vlog_lex.declared.token.TokenKind.{TokenKind}
use Rattle.vlog_parse.specs.vlog_lex.Lexeme.{IsToken, IsLongest}
use Rattle.vlog_parse.specs.vlog_lex.Words.{is_among}
use Rattle.vlog_parse.specs.vlog_lex.Gap.{IsGap}
use Rattle.vlog_parse.specs.vlog_lex.Reading.{Piece, Gap, Lexeme, Leads, newlines, tokens_of}
use Rattle.vlog_parse.proofs.vlog_lex_lemmas.Spans.{before_stop}
use Rattle.vlog_tree.specs.Words.{WordOf, NameWord, Fixed, NameAt, NumberAt, FixedAt, token_of}
use Rattle.vlog_tree.specs.Words as words
use Rattle.vlog_tree.specs.Spelling.{toks, file_words}
use Rattle.vlog_parse.specs.vlog_expr.Bare.{without_lines}
use Rattle.vlog_print.specs.Printed.{line_ends, gap_behind, printed, PrintedIsSpelled}
use Rattle.vlog_print.proofs.GoodWords.{AreTokens, good_tokens}
use Rattle.vlog_parse.proofs.vlog_lex_lemmas.Solid.{is_solid, token_solid}

-- the byte behind a token is white, and of no token
gap_if : (b : Bool) (rest : List ℕ) → IsGap ((if b then 10 else 32) ∷ []) rest
gap_if true rest = inl (10, refl, refl)
gap_if false rest = inl (32, refl, refl)

low_if : (b : Bool) → is_solid (if b then 10 else 32) ≡ false
low_if true = refl
low_if false = refl

not_both : (b : Bool) → b ≡ false → b ≡ true → ⊥
not_both true h e = (cc)
not_both false h e = (cc)

longest : (kind : TokenKind) (text rest : List ℕ) (white : ℕ) → is_solid white ≡ false → IsToken kind text → IsLongest kind text (white ∷ rest)
longest kind text rest white low token = record {
  token = token;
  longest = λ other front tail e t.
      before_stop is_solid white (not_both (is_solid white) low) front tail text rest e (token_solid other front t);
}

abbrev pieces : List Token → List Piece
pieces [] = []
pieces (t ∷ ts) = Lexeme t.kind t.text ∷ Gap (gap_behind t.text ∷ []) ∷ pieces ts

leads : (ts : List Token) → AreTokens ts → Leads (pieces ts) (printed ts) []
leads [] h = refl
leads (t ∷ ts) h =
    let white = gap_behind t.text in
    let is_end = is_among line_ends t.text in (
      white ∷ printed ts,
      append_assoc t.text (white ∷ []) (printed ts),
      longest t.kind t.text (printed ts) white (low_if is_end) h.0,
      (printed ts, refl, gap_if is_end (printed ts), leads ts h.1),
    )

abbrev unlined : Token → Token
unlined t = record { kind = t.kind; text = t.text; line = 0 }

lines_dropped : (line : ℕ) (ts : List Token) → without_lines (tokens_of line (pieces ts)) ≡ without_lines ts
lines_dropped line [] = refl
lines_dropped line (t ∷ ts) =
    ap (λ (us : List Token). unlined t ∷ us) (lines_dropped (line + newlines t.text + newlines (gap_behind t.text ∷ [])) ts)

-- the tokens of words have no lines
word_unlined : (w : WordOf ℕ) → unlined (token_of w) ≡ token_of w
word_unlined (NameWord text) = refl
word_unlined (Fixed t) = refl
word_unlined (NameAt text line) = refl
word_unlined (NumberAt kind text line) = refl
word_unlined (FixedAt t line) = refl

words_unlined : (ws : List (WordOf ℕ)) → without_lines (words.tokens_of ws) ≡ words.tokens_of ws
words_unlined [] = refl
words_unlined (w ∷ ws) = λ i. word_unlined w i ∷ words_unlined ws i

pub printed_spelled : PrintedIsSpelled
printed_spelled f h =
    let ts = toks f in
    (tokens_of 1 (pieces ts), (pieces ts, leads ts (good_tokens f h), refl), lines_dropped 1 ts ∙ words_unlined (file_words f))
