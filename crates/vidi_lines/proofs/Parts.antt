-- The parts of a list, taken off one by one.
use Rattle.std.proofs.Common.{length-drop, length-append, ◌==◌, Err, Ok, Option, Some, ◌≡◌, ◌≢◌, ℕ, ◌+◌, ◌<◌, ◌≤◌, Bool, true}
use Rattle.std.proofs.Common.{false, not, List, []}
use Rattle.std.proofs.Common.{◌∷◌, ◌++◌, length, take, drop, map, refl, sym, ap, ◌∙◌, arith, append_assoc, append-nil, inl, inr}
use Rattle.std.proofs.lemmas.Bool.{cases_lt}
use Rattle.std.proofs.lemmas.List.{drop_all, take_all}
use Rattle.std.proofs.lemmas.List.Sums.{fails_before_first}
use Rattle.std.proofs.lemmas.List.Splits.{slice_split_first, slice_split_none, length-slice_split}
use Rattle.std.specs.List.{slice_split, before_first, after_first, position_or_len, filter}
use Rattle.vidi_lines.specs.declared.lines.Line.{Line}
use Rattle.vidi_lines.specs.declared.error.LineError.{LineError}
use Rattle.vidi_lines.specs.declared.error.LineError.TheVariants.{BadLine, Memory}
use Rattle.vidi_bits.specs.Findings.{is_nil, told_if, first}
use Rattle.vidi_lines.specs.Lines.{is_newline, is_blank, unless_last_empty, file_lines, is_bad, words_between, words_of, bad_from}
use Rattle.vidi_lines.specs.Lines.{bad_lines, HasLines, HasWords, line_unless_bad}

abbrev pub is_word : List ℕ → Bool
is_word part = not (is_nil part)

-- where no element passes, the first part is the whole, and nothing stands behind it
whole_before : (p : ℕ → Bool) (xs : List ℕ) → length xs ≤ position_or_len p xs → before_first p xs ≡ xs
whole_before p xs le = take_all (position_or_len p xs) xs le

none_after : (p : ℕ → Bool) (xs : List ℕ) → length xs ≤ position_or_len p xs → after_first p xs ≡ []
none_after p xs le = drop_all (position_or_len p xs + 1) xs (omega arith)

one_part : (p : ℕ → Bool) (xs : List ℕ) → length xs ≤ position_or_len p xs → slice_split p xs ≡ xs ∷ []
one_part p xs le = slice_split_none p xs (λ k d within. fails_before_first p xs k d (omega arith))

-- ---- words

front_words : (part : List ℕ) (parts : List (List ℕ)) → filter is_word (part ∷ parts) ≡ filter is_word (part ∷ []) ++ filter is_word parts
front_words [] parts = refl
front_words (b ∷ part) parts = refl

pub next_word : (text : List ℕ) → words_between text ≡ filter is_word (before_first is_blank text ∷ [])
    ++ words_between (after_first is_blank text)
unfolding words_between
next_word text = elim (cases_lt (position_or_len is_blank text) (length text)) [
  | inl lt ↦ ap (filter is_word) (slice_split_first is_blank text 0 lt)
      ∙ front_words (before_first is_blank text) (slice_split is_blank (after_first is_blank text))
  | inr le ↦ ap (filter is_word) (one_part is_blank text le ∙ ap (λ part. part ∷ []) (sym (whole_before is_blank text le)))
      ∙ sym (append-nil (filter is_word (before_first is_blank text ∷ [])))
      ∙ ap (λ rest. filter is_word (before_first is_blank text ∷ []) ++ filter is_word (slice_split is_blank rest))
      (sym (none_after is_blank text le))
]

pub no_word : words_between [] ≡ []
unfolding words_between
no_word = refl

-- ---- lines

unless_front : (part : List ℕ) (parts : List (List ℕ)) → 0 < length parts → unless_last_empty (part ∷ parts) ≡ part
    ∷ unless_last_empty parts
unless_front part [] some = absurd (omega arith)
unless_front part (next ∷ parts) some = refl

alone : (bytes : List ℕ) → bytes ≢ [] → unless_last_empty (bytes ∷ []) ≡ bytes ∷ []
alone [] some = absurd (some refl)
alone (b ∷ bytes) some = refl

pub next_line : (bytes : List ℕ) → bytes ≢ [] → file_lines bytes ≡ before_first is_newline bytes ∷ file_lines (after_first is_newline bytes)
unfolding file_lines
next_line bytes some = elim (cases_lt (position_or_len is_newline bytes) (length bytes)) [
  | inl lt ↦ ap unless_last_empty (slice_split_first is_newline bytes 0 lt)
      ∙ unless_front (before_first is_newline bytes) (slice_split is_newline (after_first is_newline bytes))
      (omega (arith, length-slice_split is_newline (after_first is_newline bytes)))
  | inr le ↦ ap unless_last_empty (one_part is_newline bytes le) ∙ alone bytes some
      ∙ ap (λ part. part ∷ []) (sym (whole_before is_newline bytes le))
      ∙ ap (λ rest. before_first is_newline bytes ∷ unless_last_empty (slice_split is_newline rest)) (sym (none_after is_newline bytes le))
]

pub no_line : file_lines [] ≡ []
unfolding file_lines
no_line = refl

-- ---- turns of the loops

pub word_read : (text rest : List ℕ) (words more : List (List ℕ)) (n : ℕ) → words_between text ≡ words ++ words_between rest → n
    ≡ position_or_len is_blank rest
    → more ≡ words ++ filter is_word (take n rest ∷ []) → words_between text ≡ more ++ words_between (drop (n + 1) rest)
word_read text rest words more n so_far at grown =
    so_far ∙ ap (λ ws. words ++ ws) (next_word rest) ∙ sym (append_assoc words _ _)
    ∙ ap (λ k. (words ++ filter is_word (take k rest ∷ [])) ++ words_between (drop (k + 1) rest)) (sym at)
    ∙ ap (λ ws. ws ++ words_between (drop (n + 1) rest)) (sym grown)

pub words_read : (text rest : List ℕ) (words : List (List ℕ)) → words_between text ≡ words ++ words_between rest → rest ≡ [] → words
    ≡ words_between text
words_read text rest words so_far over = sym (so_far ∙ ap (λ r. words ++ words_between r) over ∙ ap (λ ws. words ++ ws) no_word
    ∙ append-nil words)

-- the first line of what is left
abbrev pub front_line : List ℕ → List ℕ
front_line rest = before_first is_newline rest

bad_front : (n : ℕ) (rest : List ℕ) (t : Bool) → rest ≢ [] → is_bad (front_line rest) ≡ t
    → bad_from n (file_lines rest) ≡ told_if t n ++ bad_from (n + 1) (file_lines (after_first is_newline rest))
bad_front n rest t some e =
    ap (bad_from n) (next_line rest some) ∙ ap (λ b. told_if b n ++ bad_from (n + 1) (file_lines (after_first is_newline rest))) e

front_at : (n : ℕ) (rest : List ℕ) → n ≡ position_or_len is_newline rest → take n rest ≡ front_line rest
front_at n rest at = ap (λ k. take k rest) at

pub line_refused : (bytes rest : List ℕ) (n len : ℕ) (e : LineError) → bad_lines bytes ≡ bad_from n (file_lines rest) → rest ≢ [] → len
    ≡ position_or_len is_newline rest
    → HasWords n (take len rest) (Err e) → HasLines bytes (Err e)
line_refused bytes rest n len (BadLine m) so_far some at (bad, is) =
    ap first (so_far ∙ bad_front n rest true some (ap is_bad (sym (front_at len rest at)) ∙ bad)) ∙ ap Some (sym is)
line_refused bytes rest n len Memory so_far some at has = tt

pub line_read : (bytes rest : List ℕ) (n len : ℕ) (line : Line) (lines more : List Line) → map words_of (file_lines bytes) ≡ lines
    ++ map words_of (file_lines rest)
    → bad_lines bytes ≡ bad_from n (file_lines rest) → rest ≢ [] → len ≡ position_or_len is_newline rest
    → HasWords n (take len rest) (Ok line) → more ≡ lines ++ line ∷ []
    → (map words_of (file_lines bytes) ≡ more ++ map words_of (file_lines (drop (len + 1) rest)))
    × (bad_lines bytes ≡ bad_from (n + 1) (file_lines (drop (len + 1) rest)))
line_read bytes rest n len line lines more words bad some at (fine, is) grown =
    let behind : file_lines (after_first is_newline rest) ≡ file_lines (drop (len + 1) rest) = ap (λ k. file_lines (drop (k + 1) rest))
    (sym at) in
    let front : words_of (front_line rest) ≡ line = ap words_of (sym (front_at len rest at)) ∙ sym is in (
      words ∙ ap (λ ls. lines ++ map words_of ls) (next_line rest some)
          ∙ ap (λ l. lines ++ (l ∷ map words_of (file_lines (after_first is_newline rest)))) front
          ∙ ap (λ ls. lines ++ (line ∷ map words_of ls)) behind ∙ sym (append_assoc lines (line ∷ [])
          (map words_of (file_lines (drop (len + 1) rest))))
          ∙ ap (λ ls. ls ++ map words_of (file_lines (drop (len + 1) rest))) (sym grown),
      bad ∙ bad_front n rest false some (ap is_bad (sym (front_at len rest at)) ∙ fine) ∙ ap (bad_from (n + 1)) behind,
    )

pub lines_read : (bytes rest : List ℕ) (n : ℕ) (lines : List Line) → map words_of (file_lines bytes) ≡ lines
    ++ map words_of (file_lines rest)
    → bad_lines bytes ≡ bad_from n (file_lines rest) → rest ≡ [] → HasLines bytes (Ok lines)
lines_read bytes rest n lines words bad over =
    let none : file_lines rest ≡ [] = ap file_lines over ∙ no_line in
    (bad ∙ ap (bad_from n) none, sym (words ∙ ap (λ ls. lines ++ map words_of ls) none ∙ append-nil lines))

pub each_read : (bytes rest : List ℕ) (len : ℕ) (line : Option Line) (lines more : List (Option Line))
    → map line_unless_bad (file_lines bytes) ≡ lines ++ map line_unless_bad (file_lines rest)
    → rest ≢ [] → len ≡ position_or_len is_newline rest → line ≡ line_unless_bad (take len rest) → more ≡ lines ++ line ∷ []
    → map line_unless_bad (file_lines bytes) ≡ more ++ map line_unless_bad (file_lines (drop (len + 1) rest))
each_read bytes rest len line lines more so_far some at is grown =
    let behind : file_lines (after_first is_newline rest) ≡ file_lines (drop (len + 1) rest) = ap (λ k. file_lines (drop (k + 1) rest))
    (sym at) in
    let front : line_unless_bad (front_line rest) ≡ line = ap line_unless_bad (sym (front_at len rest at)) ∙ sym is in
    so_far ∙ ap (λ ls. lines ++ map line_unless_bad ls) (next_line rest some)
    ∙ ap (λ l. lines ++ (l ∷ map line_unless_bad (file_lines (after_first is_newline rest)))) front
    ∙ ap (λ ls. lines ++ (line ∷ map line_unless_bad ls)) behind ∙ sym (append_assoc lines (line ∷ [])
    (map line_unless_bad (file_lines (drop (len + 1) rest))))
    ∙ ap (λ ls. ls ++ map line_unless_bad (file_lines (drop (len + 1) rest))) (sym grown)

pub all_read : (bytes rest : List ℕ) (lines : List (Option Line)) → map line_unless_bad (file_lines bytes) ≡ lines
    ++ map line_unless_bad (file_lines rest)
    → rest ≡ [] → lines ≡ map line_unless_bad (file_lines bytes)
all_read bytes rest lines so_far over =
    sym (so_far ∙ ap (λ ls. lines ++ map line_unless_bad ls) (ap file_lines over ∙ no_line) ∙ append-nil lines)

-- what a test of emptiness tells
pub is_some : (rest : List ℕ) → (length rest == 0) ≡ false → rest ≢ []
is_some [] e none = let off : true ≡ false = e in absurd (cc)
is_some (b ∷ rest) e none = absurd (cc)

pub is_none : (rest : List ℕ) → (length rest == 0) ≡ true → rest ≡ []
is_none [] e = refl
is_none (b ∷ rest) e = absurd (grind arith)

some_length : (rest : List ℕ) → rest ≢ [] → 0 < length rest
some_length [] some = absurd (some refl)
some_length (b ∷ rest) some = omega arith

pub fewer : {A : Type 0} (rest : List ℕ) (len : ℕ) (lines more : List A) (line : A) (most : ℕ) → rest ≢ [] → more ≡ lines ++ line ∷ []
    → length lines + length rest ≤ most
    → length more + length (drop (len + 1) rest) ≤ most
fewer rest len lines more line most some grown few =
    omega (arith, some_length rest some, length-drop (len + 1) rest, ap length grown, length-append lines (line ∷ []))

pub counted : (lines more : List Line) (line : Line) (n : ℕ) → n ≡ length lines → more ≡ lines ++ line ∷ [] → n + 1 + 1 ≡ length more + 1
counted lines more line n is grown = omega (arith, ap length grown, length-append lines (line ∷ []))
