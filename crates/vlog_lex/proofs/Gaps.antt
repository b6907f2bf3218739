-- A place has one gap at most.
use Rattle.std.proofs.Common.{◌≡◌, ℕ, suc, ◌+◌, ◌-◌, ◌<◌, ◌≤◌, true, false, cond, List, [], ◌∷◌, ◌++◌, ◌==◌, Bor, Option, Some, None}
use Rattle.std.proofs.Common.{IfSome, IfNone, MatchOption, inl, inr, length, take, drop, get_or, codes, sym, refl, ap, ◌∙◌, subst, ⊎_elim}
use Rattle.std.proofs.Common.{arith, append_assoc, append-nil, take-append-drop, length-take-le, length-append, length-drop, take_at}
use Rattle.std.proofs.Common.{get_or-take, get_or-append-add}
use Rattle.std.specs.List.{prefix_len}
use Rattle.std.specs.Char.{is_ascii_whitespace}
use Rattle.std.proofs.lemmas.Bool.{cases_lt, both_ways}
use Rattle.std.proofs.lemmas.List.{append_cancel_left, take_more, nil_from_length}
use Rattle.std.proofs.lemmas.List.Sums.{prefix_len-le-length}
use Rattle.std.proofs.Math.Seq.{take-append-add, drop-append-add}
use Rattle.vlog_lex.specs.Span.{IsSpan}
use Rattle.vlog_lex.specs.Front.{IsFrontBefore}
use Rattle.vlog_lex.specs.Words.{is_directive}
use Rattle.vlog_lex.specs.Lexeme.{continues_name}
use Rattle.vlog_lex.specs.Gap.{is_no_newline, IsWhite, IsLineComment, EndsComment, IsBlockComment, IsDirective, IsGap}
use Rattle.vlog_lex.proofs.Spans.{span_len, one_span, front_goes_on, span_front}

-- which gap the first two bytes begin
abbrev second : List ℕ → ℕ
second [] = 0
second (b ∷ bs) = cond (b == 47) 2 (cond (b == 42) 3 0)

abbrev lead : List ℕ → ℕ
lead [] = 0
lead (b ∷ bs) = cond (is_ascii_whitespace b) 1 (cond (b == 96) 4 (cond (b == 47) (second bs) 0))

abbrev form : (text rest : List ℕ) → IsGap text rest → ℕ
form text rest (inl white) = 1
form text rest (inr (inl line)) = 2
form text rest (inr (inr (inl block))) = 3
form text rest (inr (inr (inr directive))) = 4

lead_is : (text rest : List ℕ) (gap : IsGap text rest) → lead (text ++ rest) ≡ form text rest gap
lead_is text rest (inl white) = ap (λ t. lead (t ++ rest)) white.1 ∙ ap
    (λ t. cond t 1 (cond (white.0 == 96) 4 (cond (white.0 == 47) (second rest) 0))) white.2
lead_is text rest (inr (inl line)) = ap (λ t. lead (t ++ rest)) line.1
lead_is text rest (inr (inr (inl block))) = ap (λ t. lead (t ++ rest)) block.1
lead_is text rest (inr (inr (inr directive))) = ap (λ t. lead (t ++ rest)) directive.spelled

one_white : (t r u s : List ℕ) → IsWhite t → IsWhite u → t ++ r ≡ u ++ s → t ≡ u
one_white t r u s a b e =
    let same : a.0 ∷ r ≡ b.0 ∷ s = ap (λ x. x ++ r) (sym a.1) ∙ e ∙ ap (λ x. x ++ s) b.1 in
    let heads : a.0 ≡ b.0 = cc in
    a.1 ∙ ap (λ x. x ∷ []) heads ∙ sym b.1

one_line : (t r u s : List ℕ) → IsLineComment t r → IsLineComment u s → t ++ r ≡ u ++ s → t ≡ u
one_line t r u s a b e =
    let same : 47 ∷ 47 ∷ (a.0 ++ r) ≡ 47 ∷ 47 ∷ (b.0 ++ s) = ap (λ x. x ++ r) (sym a.1) ∙ e ∙ ap (λ x. x ++ s) b.1 in
    let tails : a.0 ++ r ≡ b.0 ++ s = cc in
    a.1 ∙ ap (λ x. 47 ∷ 47 ∷ x) (one_span is_no_newline a.0 r b.0 s a.2 b.2 tails) ∙ sym b.1

-- a text that ends with its first `*/` doesn't go on past another
no_longer : (t r u s : List ℕ) → EndsComment t → EndsComment u → t ++ r ≡ u ++ s → length t ≤ length u → t ≡ u
no_longer t r u s a b e short =
    let more = front_goes_on t r u s e short in
    let end : u ≡ a.0 ++ (codes "*/" ++ more.0) = more.1 ∙ ap (λ x. x ++ more.0) a.1 ∙ append_assoc a.0 (codes "*/") more.0 in
    sym (more.1 ∙ ap (λ x. t ++ x) (b.2 a.0 more.0 end) ∙ append-nil t)

one_end : (t r u s : List ℕ) → EndsComment t → EndsComment u → t ++ r ≡ u ++ s → t ≡ u
one_end t r u s a b e =
    ⊎_elim
    (λ (longer : length u < length t). sym (no_longer u s t r b a (sym e) (omega arith)))
    (λ short. no_longer t r u s a b e short)
    (cases_lt (length u) (length t))

one_block : (t r u s : List ℕ) → IsBlockComment t → IsBlockComment u → t ++ r ≡ u ++ s → t ≡ u
one_block t r u s a b e =
    let same : 47 ∷ 42 ∷ (a.0 ++ r) ≡ 47 ∷ 42 ∷ (b.0 ++ s) = ap (λ x. x ++ r) (sym a.1) ∙ e ∙ ap (λ x. x ++ s) b.1 in
    let tails : a.0 ++ r ≡ b.0 ++ s = cc in
    a.1 ∙ ap (λ x. 47 ∷ 42 ∷ x) (one_end a.0 r b.0 s a.2 b.2 tails) ∙ sym b.1

one_directive : (t r u s : List ℕ) → IsDirective t r → IsDirective u s → t ++ r ≡ u ++ s → t ≡ u
one_directive t r u s a b e =
    let same : 96 ∷ ((a.word ++ a.line) ++ r) ≡ 96 ∷ ((b.word ++ b.line) ++ s) = ap (λ x. x ++ r) (sym a.spelled) ∙ e
    ∙ ap (λ x. x ++ s) b.spelled in
    let tails : (a.word ++ a.line) ++ r ≡ (b.word ++ b.line) ++ s = cc in
    let both : a.word ++ (a.line ++ r) ≡ b.word ++ (b.line ++ s) = sym (append_assoc a.word a.line r) ∙ tails ∙ append_assoc b.word b.line s
    in
    let words : a.word ≡ b.word = one_span continues_name a.word (a.line ++ r) b.word (b.line ++ s) a.whole b.whole both in
    let lines : a.line ++ r ≡ b.line ++ s = append_cancel_left a.word _ _ (both ∙ ap (λ x. x ++ (b.line ++ s)) (sym words)) in
    let line : a.line ≡ b.line = one_span is_no_newline a.line r b.line s a.ends b.ends lines in
    a.spelled ∙ (λ i. 96 ∷ (words i ++ line i)) ∙ sym b.spelled

pub one_gap : (t r u s : List ℕ) → IsGap t r → IsGap u s → t ++ r ≡ u ++ s → t ≡ u
one_gap t r u s a b e = by_form t r u s a b e (sym (lead_is t r a) ∙ ap lead e ∙ lead_is u s b)
  where
    by_form : (t r u s : List ℕ) (a : IsGap t r) (b : IsGap u s) → t ++ r ≡ u ++ s → form t r a ≡ form u s b → t ≡ u
    by_form t r u s (inl a) (inl b) e c = one_white t r u s a b e
    by_form t r u s (inr (inl a)) (inr (inl b)) e c = one_line t r u s a b e
    by_form t r u s (inr (inr (inl a))) (inr (inr (inl b))) e c = one_block t r u s a b e
    by_form t r u s (inr (inr (inr a))) (inr (inr (inr b))) e c = one_directive t r u s a b e
    by_form t r u s (inl a) (inr (inl b)) e c = absurd (omega arith)
    by_form t r u s (inl a) (inr (inr (inl b))) e c = absurd (omega arith)
    by_form t r u s (inl a) (inr (inr (inr b))) e c = absurd (omega arith)
    by_form t r u s (inr (inl a)) (inl b) e c = absurd (omega arith)
    by_form t r u s (inr (inl a)) (inr (inr (inl b))) e c = absurd (omega arith)
    by_form t r u s (inr (inl a)) (inr (inr (inr b))) e c = absurd (omega arith)
    by_form t r u s (inr (inr (inl a))) (inl b) e c = absurd (omega arith)
    by_form t r u s (inr (inr (inl a))) (inr (inl b)) e c = absurd (omega arith)
    by_form t r u s (inr (inr (inl a))) (inr (inr (inr b))) e c = absurd (omega arith)
    by_form t r u s (inr (inr (inr a))) (inl b) e c = absurd (omega arith)
    by_form t r u s (inr (inr (inr a))) (inr (inl b)) e c = absurd (omega arith)
    by_form t r u s (inr (inr (inr a))) (inr (inr (inl b))) e c = absurd (omega arith)

-- a gap has a byte
pub gap_some : (text rest : List ℕ) → IsGap text rest → 0 < length text
gap_some text rest (inl white) = omega (arith, ap length white.1)
gap_some text rest (inr (inl line)) = omega (arith, ap length line.1)
gap_some text rest (inr (inr (inl block))) = omega (arith, ap length block.1)
gap_some text rest (inr (inr (inr directive))) = omega (arith, ap length directive.spelled)

-- a front at one length and one list is one at equal ones
moved : (relation : List ℕ → List ℕ → Type 0) (n m : ℕ) (xs ys : List ℕ) → n ≡ m → xs ≡ ys → IsFrontBefore relation m ys
    → IsFrontBefore relation n xs
moved relation n m xs ys lens lists front =
    let P : ℕ → Type 0 = λ k. IsFrontBefore relation k ys in
    subst (IsFrontBefore relation n) (sym lists) (subst P (sym lens) front)

-- a front of some bytes, given how it stands there
some_front : (relation : List ℕ → List ℕ → Type 0) (n : ℕ) (bytes : List ℕ) → 0 < n → n ≤ length bytes
    → relation (take n bytes) (drop n bytes) → IsFrontBefore relation n bytes
some_front relation n bytes some fits found = record { fits = fits; found = λ _. found; none = λ none front tail e. absurd (omega arith) }

no_front : (relation : List ℕ → List ℕ → Type 0) (bytes : List ℕ) → ((front tail : List ℕ) → front ++ tail ≡ bytes → ¬ relation front tail)
    → IsFrontBefore relation 0 bytes
no_front relation bytes none = record { fits = omega arith; found = λ some. absurd (omega arith); none = λ _. none }

pub line_yes : (bytes body : List ℕ) (n : ℕ) → bytes ≡ codes "//" ++ body → n ≡ prefix_len is_no_newline body
    → IsFrontBefore IsLineComment (2 + n) bytes
line_yes bytes body n e len =
    let m = prefix_len is_no_newline body in
    let two : 2 + n ≡ suc (suc m) = omega arith in
    moved IsLineComment (2 + n) (suc (suc m)) bytes (47 ∷ 47 ∷ body) two e
    (some_front IsLineComment (suc (suc m)) (47 ∷ 47 ∷ body) (omega arith) (omega (arith, prefix_len-le-length is_no_newline body))
    (take m body, refl, span_front is_no_newline body))

pub line_no : (bytes : List ℕ) → ((rest : List ℕ) → bytes ≡ codes "//" ++ rest → ⊥) → IsFrontBefore IsLineComment 0 bytes
line_no bytes none = no_front IsLineComment bytes (λ front tail e line. none (line.0 ++ tail) (sym e ∙ ap (λ t. t ++ tail) line.1))

abbrev Block : List ℕ → List ℕ → Type 0
Block text rest = IsBlockComment text

abbrev Ended : List ℕ → List ℕ → Type 0
Ended text rest = EndsComment text

pub block_yes : (bytes body : List ℕ) (n : ℕ) → bytes ≡ codes "/*" ++ body → IsFrontBefore (λ text rest. EndsComment text) n body → 0 < n
    → IsFrontBefore (λ text rest. IsBlockComment text) (2 + n) bytes
block_yes bytes body n e end some =
    let two : 2 + n ≡ suc (suc n) = omega arith in
    moved Block (2 + n) (suc (suc n)) bytes (47 ∷ 42 ∷ body) two e
    (some_front Block (suc (suc n)) (47 ∷ 42 ∷ body) (omega arith) (omega (arith, end.fits)) (take n body, refl, end.found some))

pub block_open : (bytes body : List ℕ) (n : ℕ) → bytes ≡ codes "/*" ++ body → IsFrontBefore (λ text rest. EndsComment text) n body → n ≤ 0
    → IsFrontBefore (λ text rest. IsBlockComment text) 0 bytes
block_open bytes body n e end open' = no_front Block bytes (λ front tail same block.
    let both : 47 ∷ 42 ∷ (block.0 ++ tail) ≡ 47 ∷ 42 ∷ body = ap (λ t. t ++ tail) (sym block.1) ∙ same ∙ e in
    let tails : block.0 ++ tail ≡ body = cc in
    end.none (omega arith) block.0 tail tails block.2)

pub block_no : (bytes : List ℕ) → ((rest : List ℕ) → bytes ≡ codes "/*" ++ rest → ⊥)
    → IsFrontBefore (λ text rest. IsBlockComment text) 0 bytes
block_no bytes none = no_front Block bytes (λ front tail e block. none (block.0 ++ tail) (sym e ∙ ap (λ t. t ++ tail) block.1))

pub directive_yes : (bytes rest : List ℕ) (word n : ℕ) → bytes ≡ codes "`" ++ rest → word ≡ prefix_len continues_name rest
    → is_directive (take word rest) ≡ true → n ≡ prefix_len is_no_newline (drop word rest) → IsFrontBefore IsDirective (1 + word + n) bytes
directive_yes bytes rest word n e word_is named len =
    let after = drop word rest in
    let short : word ≤ length rest = omega (arith, prefix_len-le-length continues_name rest) in
    let wide : length (take word rest) ≡ word = length-take-le word rest short in
    let more : n ≤ length rest - word = omega (arith, prefix_len-le-length is_no_newline after, length-drop word rest) in
    let both : take word rest ++ after ≡ rest = take-append-drop word rest in
    let one : 1 + word + n ≡ suc (word + n) = omega arith in
    let lens : word + n ≡ length (take word rest) + n = omega arith in
    let text : take (word + n) rest ≡ take word rest ++ take n after = ap (λ k. take k rest) lens
    ∙ ap (take (length (take word rest) + n)) (sym both) ∙ take-append-add (take word rest) after n in
    let left : drop (word + n) rest ≡ drop n after = ap (λ k. drop k rest) lens ∙ ap (drop (length (take word rest) + n)) (sym both)
    ∙ drop-append-add (take word rest) after n in
    let Spans : ℕ → Type 0 = λ k. IsSpan continues_name (take k rest) (drop k rest) in
    let whole : IsSpan continues_name (take word rest) after = subst Spans (sym word_is) (span_front continues_name rest) in
    let Lines : ℕ → Type 0 = λ k. IsSpan is_no_newline (take k after) (drop k after) in
    let ends : IsSpan is_no_newline (take n after) (drop n after) = subst Lines (sym len) (span_front is_no_newline after) in
    let Left : List ℕ → Type 0 = λ t. IsSpan is_no_newline (take n after) t in
    let Rest : List ℕ → Type 0 = λ t. IsSpan continues_name (take word rest) t in
    moved IsDirective (1 + word + n) (suc (word + n)) bytes (96 ∷ rest) one e
    (some_front IsDirective (suc (word + n)) (96 ∷ rest) (omega arith) (omega arith) (record {
      word = take word rest;
      line = take n after;
      spelled = ap (λ t. 96 ∷ t) text;
      directive = named;
      whole = subst Rest (sym (take-append-drop n after) ∙ ap (λ t. take n after ++ t) (sym left)) whole;
      ends = subst Left (sym left) ends;
    }))

pub directive_other : (bytes rest : List ℕ) (word : ℕ) → bytes ≡ codes "`" ++ rest → word ≡ prefix_len continues_name rest
    → is_directive (take word rest) ≡ false → IsFrontBefore IsDirective 0 bytes
directive_other bytes rest word e word_is other = no_front IsDirective bytes (λ front tail same directive.
    let d = directive in
    let both : 96 ∷ ((d.word ++ d.line) ++ tail) ≡ 96 ∷ rest = ap (λ t. t ++ tail) (sym d.spelled) ∙ same ∙ e in
    let tails : (d.word ++ d.line) ++ tail ≡ rest = cc in
    let split : d.word ++ (d.line ++ tail) ≡ rest = sym (append_assoc d.word d.line tail) ∙ tails in
    let len : length d.word ≡ word = sym (span_len continues_name d.word (d.line ++ tail) d.whole.each d.whole.stops)
    ∙ ap (prefix_len continues_name) split ∙ sym word_is in
    let words : d.word ≡ take word rest = sym (take_at d.word (d.line ++ tail) word len) ∙ ap (take word) split in
    let P : List ℕ → Type 0 = λ t. is_directive t ≡ true in
    both_ways _ other (subst P words d.directive))

pub directive_no : (bytes : List ℕ) → ((rest : List ℕ) → bytes ≡ codes "`" ++ rest → ⊥) → IsFrontBefore IsDirective 0 bytes
directive_no bytes none = no_front IsDirective bytes (λ front tail e d. none ((d.word ++ d.line) ++ tail)
    (sym e ∙ ap (λ t. t ++ tail) d.spelled))

-- a `*/` before the place i
abbrev pub NoEndBefore : List ℕ → ℕ → Type 0
NoEndBefore bytes i = (k : ℕ) → k + 1 < i → get_or bytes k 0 ≡ 42 → get_or bytes (k + 1) 0 ≡ 47 → ⊥

-- where a text has a `*/` after its front
end_reads : (bytes before after : List ℕ) → bytes ≡ before ++ (codes "*/" ++ after)
    → (get_or bytes (length before) 0 ≡ 42) × (get_or bytes (length before + 1) 0 ≡ 47)
    × (length bytes ≡ length before + suc (suc (length after)))
end_reads bytes before after e =
    let zero_more : length before ≡ length before + 0 = omega arith in (
      ap (λ t. get_or t (length before) 0) e ∙ ap (λ n. get_or (before ++ 42 ∷ 47 ∷ after) n 0) zero_more
          ∙ get_or-append-add before (42 ∷ 47 ∷ after) 0 0,
      ap (λ t. get_or t (length before + 1) 0) e ∙ get_or-append-add before (42 ∷ 47 ∷ after) 1 0,
      ap length e ∙ length-append before (42 ∷ 47 ∷ after),
    )

pub end_found : (bytes : List ℕ) (i : ℕ) → 0 < i → i < length bytes → get_or bytes (i - 1) 0 ≡ 42 → get_or bytes i 0 ≡ 47
    → NoEndBefore bytes i → IsFrontBefore (λ text rest. EndsComment text) (i + 1) bytes
end_found bytes i some within star slash none =
    let pred : i - 1 + 1 ≡ i = omega arith in
    let first : take i bytes ≡ take (i - 1) bytes ++ 42 ∷ [] = ap (λ n. take n bytes) (sym pred) ∙ take_more bytes (i - 1) 0 (omega arith)
    ∙ ap (λ b. take (i - 1) bytes ++ b ∷ []) star in
    let text : take (i + 1) bytes ≡ take (i - 1) bytes ++ codes "*/" = take_more bytes i 0 within ∙ ap (λ b. take i bytes ++ b ∷ []) slash
    ∙ ap (λ t. t ++ 47 ∷ []) first ∙ append_assoc (take (i - 1) bytes) (42 ∷ []) (47 ∷ []) in
    let len : length (take (i + 1) bytes) ≡ i + 1 = length-take-le (i + 1) bytes (omega arith) in
    some_front Ended (i + 1) bytes (omega arith) (omega arith) (
      take (i - 1) bytes,
      text,
      λ before after e.
          let reads = end_reads (take (i + 1) bytes) before after e in
          nil_from_length after (last bytes i before after len reads none),
    )
  where
    last : (bytes : List ℕ) (i : ℕ) (before after : List ℕ) → length (take (i + 1) bytes) ≡ i + 1
        → (get_or (take (i + 1) bytes) (length before) 0 ≡ 42) × (get_or (take (i + 1) bytes) (length before + 1) 0 ≡ 47)
        × (length (take (i + 1) bytes) ≡ length before + suc (suc (length after)))
        → NoEndBefore bytes i → length after ≡ 0
    last bytes i before after len reads none =
        ⊎_elim
        (λ (more : 0 < length after). absurd (none (length before) (omega arith)
        (sym (get_or-take (i + 1) bytes (length before) 0 (omega arith)) ∙ reads.0)
        (sym (get_or-take (i + 1) bytes (length before + 1) 0 (omega arith)) ∙ reads.1)))
        (λ (no : length after ≤ 0). omega arith)
        (cases_lt 0 (length after))

pub end_none : (bytes : List ℕ) → NoEndBefore bytes (length bytes) → IsFrontBefore (λ text rest. EndsComment text) 0 bytes
end_none bytes none = no_front Ended bytes (λ front tail e end.
    let split : bytes ≡ end.0 ++ (codes "*/" ++ tail) = sym e ∙ ap (λ t. t ++ tail) end.1 ∙ append_assoc end.0 (codes "*/") tail in
    let reads = end_reads bytes end.0 tail split in
    none (length end.0) (omega (arith, reads.2)) reads.0 reads.1)

-- a gap, from what each of its forms has at the place
lifted : (R S : List ℕ → List ℕ → Type 0) (n : ℕ) (bytes : List ℕ) → ((text rest : List ℕ) → R text rest → S text rest)
    → IsFrontBefore R n bytes → 0 < n → IsFrontBefore S n bytes
lifted R S n bytes step front some = some_front S n bytes some front.fits (step _ _ (front.found some))

pub gap_white : (n : ℕ) (bytes : List ℕ) → IsFrontBefore (λ text rest. IsWhite text) n bytes → 0 < n → IsFrontBefore IsGap n bytes
gap_white n bytes front some = lifted (λ text rest. IsWhite text) IsGap n bytes (λ text rest gap. inl gap) front some

pub gap_line : (n : ℕ) (bytes : List ℕ) → IsFrontBefore IsLineComment n bytes → 0 < n → IsFrontBefore IsGap n bytes
gap_line n bytes front some = lifted IsLineComment IsGap n bytes (λ text rest gap. inr (inl gap)) front some

pub gap_block : (n : ℕ) (bytes : List ℕ) → IsFrontBefore (λ text rest. IsBlockComment text) n bytes → 0 < n → IsFrontBefore IsGap n bytes
gap_block n bytes front some = lifted Block IsGap n bytes (λ text rest gap. inr (inr (inl gap))) front some

pub gap_directive : (white line block n : ℕ) (bytes : List ℕ) → IsFrontBefore (λ text rest. IsWhite text) white bytes → white ≤ 0
    → IsFrontBefore IsLineComment line bytes → line ≤ 0
    → IsFrontBefore (λ text rest. IsBlockComment text) block bytes → block ≤ 0 → IsFrontBefore IsDirective n bytes
    → IsFrontBefore IsGap n bytes
gap_directive white line block n bytes a x b y c z d = record {
  fits = d.fits;
  found = λ some. inr (inr (inr (d.found some)));
  none = λ none front tail e gap. which front tail e gap (a.none (omega arith)) (b.none (omega arith)) (c.none (omega arith)) (d.none none);
}
  where
    which : (front tail : List ℕ) {bytes : List ℕ} → front ++ tail ≡ bytes → IsGap front tail
        → ((front tail : List ℕ) → front ++ tail ≡ bytes → ¬ IsWhite front)
        → ((front tail : List ℕ) → front ++ tail ≡ bytes → ¬ IsLineComment front tail)
        → ((front tail : List ℕ) → front ++ tail ≡ bytes → ¬ IsBlockComment front)
        → ((front tail : List ℕ) → front ++ tail ≡ bytes → ¬ IsDirective front tail) → ⊥
    which front tail e (inl gap) a b c d = a front tail e gap
    which front tail e (inr (inl gap)) a b c d = b front tail e gap
    which front tail e (inr (inr (inl gap))) a b c d = c front tail e gap
    which front tail e (inr (inr (inr gap))) a b c d = d front tail e gap

-- what `strip_prefix` tells, at each of its variants
pub after_is : (s p : List ℕ) (r : Option (Bor (List ℕ))) → MatchOption r ((rest : List ℕ) → s ≡ p ++ rest → ⊥) (λ x. s ≡ p ++ x.now)
    → IfSome r (λ x. s ≡ p ++ x.now) × IfNone r ((rest : List ℕ) → s ≡ p ++ rest → ⊥)
after_is s p None h = (tt, h)
after_is s p (Some x) h = (h, tt)
