-- A text has one reading, and a reading grows by a piece.
use Rattle.std.proofs.Common.{◌≡◌, ◌≢◌, ◌==◌, ℕ, ◌+◌, ◌-◌, ◌<◌, ◌≤◌, true, false, cond, None, length-take-le, length-drop, List, [], ◌∷◌}
use Rattle.std.proofs.Common.{◌++◌, length, take, drop, take-append-drop, sym, refl, ap, ◌∙◌, subst, arith, append_assoc, append-nil}
use Rattle.std.proofs.Common.{length-append}
use Rattle.std.proofs.lemmas.List.{append_cancel_left, take_rest, nil_from_length}
use Rattle.std.proofs.lemmas.Bool.{eqb-true, eqb-false}
use Rattle.std.proofs.lemmas.List.Sums.{count_by-le-length, sum_by-append}
use Rattle.std.proofs.Math.Seq.{take-append_seam}
use Rattle.vlog_lex.specs.declared.token.Token.{Token}
use Rattle.vlog_lex.specs.declared.token.TokenKind.{TokenKind}
use Rattle.vlog_lex.specs.Lexeme.{IsToken, IsLongest}
use Rattle.vlog_lex.specs.Gap.{IsGap}
use Rattle.vlog_lex.specs.Front.{IsFrontBefore, IsNextToken}
use Rattle.vlog_lex.specs.Reading.{Piece, Gap, Lexeme, text_of, IsPiece, Leads, newlines, token_of, tokens_of, HasTokens, IsStuck}
use Rattle.vlog_lex.specs.Reading.{line_before, IsStuckOn, OneStuckLine}
use Rattle.vlog_lex.proofs.Spans.{same_front}
use Rattle.vlog_lex.proofs.Longest.{one_kind, token_some}
use Rattle.vlog_lex.proofs.Solid.{no_newline}
use Rattle.vlog_lex.proofs.Gaps.{one_gap, gap_some}
use Rattle.vlog_lex.proofs.Apart.{gap_no_token}

pub piece_some : (piece : Piece) (rest : List ℕ) → IsPiece piece rest → 0 < length (text_of piece)
piece_some (Gap text) rest lawful = gap_some text rest lawful
piece_some (Lexeme kind text) rest lawful = token_some kind text lawful.token

one_text : (k j : TokenKind) (t r u s : List ℕ) → IsLongest k t r → IsLongest j u s → t ++ r ≡ u ++ s → t ≡ u
one_text k j t r u s a b e =
    let low = b.longest k t r e a.token in
    let high = a.longest j u s (sym e) b.token in
    same_front t r u s e (omega arith)

one_lexeme : (k j : TokenKind) (t r u s : List ℕ) → IsLongest k t r → IsLongest j u s → t ++ r ≡ u ++ s → Lexeme k t ≡ Lexeme j u
one_lexeme k j t r u s a b e =
    let texts : t ≡ u = one_text k j t r u s a b e in
    let P : List ℕ → Type 0 = IsToken j in
    let kinds : k ≡ j = one_kind k j t a.token (subst P (sym texts) b.token) in
    λ i. Lexeme (kinds i) (texts i)

pub one_piece : (p q : Piece) (a b : List ℕ) → IsPiece p a → IsPiece q b → text_of p ++ a ≡ text_of q ++ b → p ≡ q
one_piece (Gap t) (Gap u) a b x y e = ap Gap (one_gap t a u b x y e)
one_piece (Gap t) (Lexeme j u) a b x y e = absurd (gap_no_token t a j u b x y.token e)
one_piece (Lexeme k t) (Gap u) a b x y e = absurd (gap_no_token u b k t a y x.token (sym e))
one_piece (Lexeme k t) (Lexeme j u) a b x y e = one_lexeme k j t a u b x y e

-- after one piece the rests are one too
one_rest : (p q : Piece) (a b : List ℕ) → p ≡ q → text_of p ++ a ≡ text_of q ++ b → a ≡ b
one_rest p q a b same e = append_cancel_left (text_of p) a b (e ∙ ap (λ x. text_of x ++ b) (sym same))

no_piece_at_end : (p : Piece) (after : List ℕ) → IsPiece p after → [] ≡ text_of p ++ after → ⊥
no_piece_at_end p after lawful e =
    let some = piece_some p after lawful in
    omega (arith, ap length e ∙ length-append (text_of p) after)

-- the bytes have one list of pieces
pub one_reading : (ps qs : List Piece) (bytes : List ℕ) → Leads ps bytes [] → Leads qs bytes [] → ps ≡ qs
one_reading [] [] bytes a b = refl
one_reading [] (q ∷ qs) bytes a b = absurd (no_piece_at_end q b.0 b.2 (sym a ∙ b.1))
one_reading (p ∷ ps) [] bytes a b = absurd (no_piece_at_end p a.0 a.2 (sym b ∙ a.1))
one_reading (p ∷ ps) (q ∷ qs) bytes a b =
    let e = sym a.1 ∙ b.1 in
    let heads : p ≡ q = one_piece p q a.0 b.0 a.2 b.2 e in
    let rests : a.0 ≡ b.0 = one_rest p q a.0 b.0 heads e in
    let P : List ℕ → Type 0 = λ r. Leads qs r [] in
    let tails : ps ≡ qs = one_reading ps qs a.0 a.3 (subst P (sym rests) b.3) in
    λ i. heads i ∷ tails i

-- bytes that have tokens don't lead to a place where nothing begins
pub no_stop : (ps qs : List Piece) (bytes rest : List ℕ) → Leads ps bytes [] → Leads qs bytes rest → rest ≢ []
    → ((piece : Piece) (after : List ℕ) → rest ≡ text_of piece ++ after → ¬ IsPiece piece after) → ⊥
no_stop [] [] bytes rest a b some none = some (sym b ∙ a)
no_stop [] (q ∷ qs) bytes rest a b some none = no_piece_at_end q b.0 b.2 (sym a ∙ b.1)
no_stop (p ∷ ps) [] bytes rest a b some none = none p a.0 (sym b ∙ a.1) a.2
no_stop (p ∷ ps) (q ∷ qs) bytes rest a b some none =
    let e = sym a.1 ∙ b.1 in
    let heads : p ≡ q = one_piece p q a.0 b.0 a.2 b.2 e in
    let rests : a.0 ≡ b.0 = one_rest p q a.0 b.0 heads e in
    let P : List ℕ → Type 0 = λ r. Leads qs r rest in
    no_stop ps qs a.0 rest a.3 (subst P (sym rests) b.3) some none

-- a piece more
leads_more : (ps : List Piece) (p : Piece) (bytes rest after : List ℕ) → Leads ps bytes rest → rest ≡ text_of p ++ after → IsPiece p after
    → Leads (ps ++ p ∷ []) bytes after
leads_more [] p bytes rest after leads e lawful = (after, leads ∙ e, lawful, refl)
leads_more (q ∷ qs) p bytes rest after leads e lawful = (leads.0, leads.1, leads.2, leads_more qs p leads.0 rest after leads.3 e lawful)

-- the line after the pieces
abbrev pub line_after : ℕ → List Piece → ℕ
line_after line [] = line
line_after line (p ∷ ps) = line_after (line + newlines (text_of p)) ps

line_more : (line : ℕ) (ps : List Piece) (p : Piece) → line_after line (ps ++ p ∷ []) ≡ line_after line ps + newlines (text_of p)
line_more line [] p = refl
line_more line (q ∷ qs) p = line_more (line + newlines (text_of q)) qs p

tokens_more : (line : ℕ) (ps : List Piece) (p : Piece) → tokens_of line (ps ++ p ∷ []) ≡ tokens_of line ps
    ++ token_of (line_after line ps) p
tokens_more line [] p = append-nil (token_of line p)
tokens_more line (q ∷ qs) p =
    let next = line + newlines (text_of q) in
    ap (λ t. token_of line q ++ t) (tokens_more next qs p) ∙ sym (append_assoc (token_of line q) (tokens_of next qs)
    (token_of (line_after next qs) p))

-- what the loop of `lex` keeps: the tokens up to the rest
pub record Reads (bytes rest : List ℕ) (tokens : List Token) (line : ℕ) : Type 0 where
  pub pieces : List Piece
  pub leads : Leads pieces bytes rest
  pub told : tokens ≡ tokens_of 1 pieces
  pub counted : line ≡ line_after 1 pieces
  pub positive : 1 ≤ line
  pub bound : line + length rest ≤ 1 + length bytes

pub reads_more : (bytes rest after : List ℕ) (tokens : List Token) (line : ℕ) (p : Piece) → Reads bytes rest tokens line → rest ≡ text_of p
    ++ after → IsPiece p after
    → Reads bytes after (tokens ++ token_of line p) (line + newlines (text_of p))
reads_more bytes rest after tokens line p reads e lawful = record {
  pieces = reads.pieces ++ p ∷ [];
  leads = leads_more reads.pieces p bytes rest after reads.leads e lawful;
  told = ap (λ t. t ++ token_of line p) reads.told ∙ ap (λ l. tokens_of 1 reads.pieces ++ token_of l p) reads.counted
      ∙ sym (tokens_more 1 reads.pieces p);
  counted = ap (λ l. l + newlines (text_of p)) reads.counted ∙ sym (line_more 1 reads.pieces p);
  positive = omega (arith, reads.positive);
  bound = omega (arith, reads.bound, count_by-le-length (λ b. b == 10) (text_of p), ap length e ∙ length-append (text_of p) after);
}

pub reads_gap : (bytes rest : List ℕ) (tokens : List Token) (line n k : ℕ) → Reads bytes rest tokens line
    → IsGap (take n rest) (drop n rest) → k ≡ newlines (take n rest)
    → Reads bytes (take (length rest - n) (drop n rest)) tokens (line + k)
reads_gap bytes rest tokens line n k reads gap count =
    let P : List Token → Type 0 = λ ts. Reads bytes (drop n rest) ts (line + newlines (take n rest)) in
    let Q : ℕ → Type 0 = λ m. Reads bytes (drop n rest) tokens (line + m) in
    let R : List ℕ → Type 0 = λ r. Reads bytes r tokens (line + k) in
    let more = subst P (append-nil tokens) (reads_more bytes rest (drop n rest) tokens line (Gap (take n rest)) reads
    (sym (take-append-drop n rest)) gap) in
    subst R (sym (take_rest rest n)) (subst Q (sym count) more)

pub reads_token : (bytes rest : List ℕ) (tokens grown : List Token) (line n : ℕ) (kind : TokenKind) (t : Token)
    → Reads bytes rest tokens line → IsLongest kind (take n rest) (drop n rest)
    → t ≡ record { kind = kind; text = take n rest; line = line } → grown ≡ tokens ++ t ∷ []
    → Reads bytes (take (length rest - n) (drop n rest)) grown line
reads_token bytes rest tokens grown line n kind t reads longest is grows =
    let same : line + newlines (take n rest) ≡ line = omega (arith, no_newline kind (take n rest) longest.token) in
    let P : ℕ → Type 0 = λ l. Reads bytes (drop n rest) (tokens ++ record { kind = kind; text = take n rest; line = line } ∷ []) l in
    let Q : List Token → Type 0 = λ ts. Reads bytes (drop n rest) ts line in
    let R : List ℕ → Type 0 = λ r. Reads bytes r grown line in
    let more = subst P same (reads_more bytes rest (drop n rest) tokens line (Lexeme kind (take n rest)) reads
    (sym (take-append-drop n rest)) longest) in
    subst R (sym (take_rest rest n)) (subst Q (sym (grows ∙ ap (λ x. tokens ++ x ∷ []) is)) more)

-- a token shortens the rest
pub shorter : (rest : List ℕ) (n : ℕ) (kind : TokenKind) → n ≤ length rest → IsLongest kind (take n rest) (drop n rest)
    → length (take (length rest - n) (drop n rest)) < length rest
shorter rest n kind fits longest =
    omega (arith, token_some kind (take n rest) longest.token, length-take-le n rest fits, ap length (take_rest rest n), length-drop n rest)

pub reads_all : (bytes rest : List ℕ) (tokens : List Token) (line : ℕ) → Reads bytes rest tokens line → (length rest == 0) ≡ true
    → HasTokens bytes tokens
reads_all bytes rest tokens line reads done =
    let P : List ℕ → Type 0 = λ r. Leads reads.pieces bytes r in
    (reads.pieces, subst P (nil_from_length rest (eqb-true (length rest) 0 done)) reads.leads, reads.told)

abbrev pub reads_stuck : (bytes rest : List ℕ) (tokens : List Token) (line n : ℕ) → Reads bytes rest tokens line → (length rest == 0)
    ≡ false
    → IsFrontBefore IsGap n rest → n ≤ 0 → IsNextToken None rest → IsStuck bytes
reads_stuck bytes rest tokens line n reads some gap no_gap token = record {
  pieces = reads.pieces;
  rest = rest;
  leads = reads.leads;
  some = λ e. eqb-false (length rest) 0 some (ap length e);
  no_gap = gap.none (omega arith);
  no_token = token;
}

-- the text of all the pieces stands before the rest
texts : List Piece → List ℕ
texts [] = []
texts (p ∷ ps) = text_of p ++ texts ps

texts_lead : (ps : List Piece) (bytes rest : List ℕ) → Leads ps bytes rest → bytes ≡ texts ps ++ rest
unfolding texts
texts_lead [] bytes rest leads = leads
texts_lead (p ∷ ps) bytes rest leads =
    leads.1 ∙ ap (λ t. text_of p ++ t) (texts_lead ps leads.0 rest leads.3) ∙ sym (append_assoc (text_of p) (texts ps) rest)

line_texts : (line : ℕ) (ps : List Piece) → line_after line ps ≡ line + newlines (texts ps)
unfolding texts
line_texts line [] = omega arith
line_texts line (p ∷ ps) =
    let both : newlines (text_of p ++ texts ps) ≡ newlines (text_of p)
    + newlines (texts ps) = sum_by-append (λ b. cond (b == 10) 1 0) (text_of p) (texts ps) in
    omega (arith, line_texts (line + newlines (text_of p)) ps, both)

line_at : (ps : List Piece) (bytes rest : List ℕ) → Leads ps bytes rest → line_after 1 ps ≡ line_before bytes rest
line_at ps bytes rest leads =
    let whole = texts_lead ps bytes rest leads in
    let size : length bytes - length rest ≡ length (texts ps) = omega (arith, ap length whole ∙ length-append (texts ps) rest) in
    let front : take (length bytes - length rest) bytes ≡ texts ps =
    ap (λ n. take n bytes) size ∙ ap (λ t. take (length (texts ps)) t) whole ∙ take-append_seam (texts ps) rest in
    line_texts 1 ps ∙ ap (λ t. 1 + newlines t) (sym front)

pub reads_stuck_on : (bytes rest : List ℕ) (tokens : List Token) (line n : ℕ) → Reads bytes rest tokens line → (length rest == 0) ≡ false
    → IsFrontBefore IsGap n rest → n ≤ 0 → IsNextToken None rest → IsStuckOn bytes line
reads_stuck_on bytes rest tokens line n reads some gap no_gap token =
    (reads_stuck bytes rest tokens line n reads some gap no_gap token, reads.counted ∙ line_at reads.pieces bytes rest reads.leads)

-- where bytes are stuck no piece begins
no_piece : (bytes : List ℕ) (stuck : IsStuck bytes) (piece : Piece) (after : List ℕ) → stuck.rest ≡ text_of piece ++ after
    → ¬ IsPiece piece after
no_piece bytes stuck (Gap text) after e lawful = stuck.no_gap text after (sym e) lawful
no_piece bytes stuck (Lexeme kind text) after e lawful = stuck.no_token kind text after (sym e) lawful.token

same_place : (ps qs : List Piece) (bytes r s : List ℕ) → Leads ps bytes r → Leads qs bytes s
    → ((piece : Piece) (after : List ℕ) → r ≡ text_of piece ++ after → ¬ IsPiece piece after)
    → ((piece : Piece) (after : List ℕ) → s ≡ text_of piece ++ after → ¬ IsPiece piece after) → r ≡ s
same_place [] [] bytes r s a b x y = sym a ∙ b
same_place [] (q ∷ qs) bytes r s a b x y = absurd (x q b.0 (sym a ∙ b.1) b.2)
same_place (p ∷ ps) [] bytes r s a b x y = absurd (y p a.0 (sym b ∙ a.1) a.2)
same_place (p ∷ ps) (q ∷ qs) bytes r s a b x y =
    let e = sym a.1 ∙ b.1 in
    let heads : p ≡ q = one_piece p q a.0 b.0 a.2 b.2 e in
    let rests : a.0 ≡ b.0 = one_rest p q a.0 b.0 heads e in
    let P : List ℕ → Type 0 = λ t. Leads qs t s in
    same_place ps qs a.0 r s a.3 (subst P (sym rests) b.3) x y

pub one_stuck_line : OneStuckLine
one_stuck_line bytes a b x y =
    x.1 ∙ ap (λ rest. line_before bytes rest) (same_place x.0.pieces y.0.pieces bytes x.0.rest y.0.rest x.0.leads y.0.leads
    (no_piece bytes x.0) (no_piece bytes y.0)) ∙ sym y.1

pub one_answer : (bytes : List ℕ) (ts us : List Token) → HasTokens bytes ts → HasTokens bytes us → ts ≡ us
one_answer bytes ts us a b = a.2 ∙ ap (tokens_of 1) (one_reading a.0 b.0 bytes a.1 b.1) ∙ sym b.2

pub not_both : (bytes : List ℕ) (ts : List Token) → HasTokens bytes ts → ¬ IsStuck bytes
not_both bytes ts a stuck = no_stop a.0 stuck.pieces bytes stuck.rest a.1 stuck.leads stuck.some
    (λ piece after e lawful. neither piece after stuck.rest e lawful stuck.no_gap stuck.no_token)
  where
    neither : (piece : Piece) (after rest : List ℕ) → rest ≡ text_of piece ++ after → IsPiece piece after
        → ((text after : List ℕ) → text ++ after ≡ rest → ¬ IsGap text after)
        → ((kind : TokenKind) (text after : List ℕ) → text ++ after ≡ rest → ¬ IsToken kind text) → ⊥
    neither (Gap text) after rest e lawful gap token = gap text after (sym e) lawful
    neither (Lexeme kind text) after rest e lawful gap token = token kind text after (sym e) lawful.token
