-- The steps of reading.
use Rattle.std.proofs.Common.{◌≡◌, ◌≢◌, ℕ, ◌+◌, ◌*◌, ◌<◌, ◌≤◌, ◌++◌, if◌then◌else◌, Bool, true, false, List, [], ◌∷◌, length, drop, take, map, refl, ap, sym, subst, ◌∙◌, arith, append_assoc, append-nil, flat_map, Option, Some, None, MatchOption, codes, length-drop, replicate, slice_set, ◌-◌, ◌==◌, ⊎_elim, Err, Ok}
use Rattle.std.specs.List.{join_with_byte, position_or_len, before_first, after_first}
use Rattle.std.specs.Str.{bytes_eq}
use Rattle.std.proofs.Math.ListN.{length-set}
use Rattle.std.proofs.lemmas.Bool.{cases_Bool, cond-true, cond-false}
use Rattle.vidi_lines.specs.Lines.{is_newline, file_lines}
use Rattle.vidi_lines.proofs.Parts.{next_line, no_line}
use Rattle.wave_text.specs.declared.wave.WaveNet.{WaveNet}
use Rattle.wave_text.specs.Names.{but_last}
use Rattle.wave_text.specs.declared.error.WaveError.{WaveError}
use Rattle.wave_text.specs.declared.error.WaveError.TheVariants.{BadWave, Memory}
use Rattle.wave_text.specs.declared.wave.Wave.{Wave}
use Rattle.wave_text.specs.Reading.{is_space, place_of, number_after, noted, word_at, path_after, nets_in, read_nets, read_rows, first_line, behind_line, wave_of, IsCandidate, ReadsWave}
use Rattle.wave_text.specs.Steps.{rows_of, AreMany, ReadsLine, ReadsRows}
use Rattle.wave_text.specs.Text.{last_line, wave_text}
use Rattle.wave_text.specs.Wave.{IsWave, most_numbers}
use Rattle.wave_text.proofs.Told.{wave-is-read}

-- ---- names
pub full-name : (path : List (List ℕ)) (base : List ℕ) → flat_map (λ part. part ++ 46 ∷ []) path ++ base ≡ join_with_byte 46 (path ++ base ∷ [])
full-name [] base = refl
full-name (p ∷ []) base = ap (λ t. t ++ base) (append-nil (p ++ 46 ∷ [])) ∙ append_assoc p (46 ∷ []) base
full-name (p ∷ q ∷ ps) base =
    append_assoc (p ++ 46 ∷ []) (flat_map (λ part. part ++ 46 ∷ []) (q ∷ ps)) base
    ∙ append_assoc p (46 ∷ []) (flat_map (λ part. part ++ 46 ∷ []) (q ∷ ps) ++ base)
    ∙ ap (λ t. p ++ 46 ∷ t) (full-name (q ∷ ps) base)

but_last-push : (xs : List (List ℕ)) (y : List ℕ) → but_last (xs ++ y ∷ []) ≡ xs
but_last-push [] y = refl
but_last-push (x ∷ []) y = refl
but_last-push (x ∷ z ∷ xs) y = ap (λ ys. x ∷ ys) (but_last-push (z ∷ xs) y)

popped : (o : Option (List ℕ)) (old new : List (List ℕ)) → MatchOption o ((old ≡ []) × (new ≡ [])) (λ last. old ≡ new ++ last ∷ [])
    → new ≡ but_last old
popped None old new h = h.1 ∙ sym (ap but_last h.0)
popped (Some last) old new h = sym (ap but_last h ∙ but_last-push new last)

pub test-is : (a : Bool) (key key' word word' : List ℕ) (r : Bool) → key ≡ key' → word ≡ word' → a ≡ bytes_eq key word → a ≡ r → bytes_eq key' word' ≡ r
test-is a key key' word word' r e f is is_so = ap (λ k. bytes_eq k word') (sym e) ∙ ap (bytes_eq key) (sym f) ∙ sym is ∙ is_so

pub left : (path new : List (List ℕ)) (line key scope up : List ℕ) (a b : Bool) (o : Option (List ℕ)) → key ≡ word_at 0 line → scope ≡ codes "$scope"
    → up ≡ codes "$upscope" → a ≡ bytes_eq key scope → a ≡ false → b ≡ bytes_eq key up → b ≡ true
    → MatchOption o ((path ≡ []) × (new ≡ [])) (λ last. path ≡ new ++ last ∷ []) → new ≡ path_after path line
left path new line key scope up a b o key_is scope_is up_is a_is is_not b_is is_so pop =
    let other = test-is a key (word_at 0 line) scope (codes "$scope") false key_is scope_is a_is is_not in
    let this = test-is b key (word_at 0 line) up (codes "$upscope") true key_is up_is b_is is_so in
    let inner = if bytes_eq (word_at 0 line) (codes "$upscope") then but_last path else path in
    popped o path new pop
    ∙ sym (cond-true (bytes_eq (word_at 0 line) (codes "$upscope")) (but_last path) path this)
    ∙ sym (cond-false (bytes_eq (word_at 0 line) (codes "$scope")) (path ++ word_at 2 line ∷ []) inner other)

-- ---- lines
pub none-left : (text : List ℕ) → text ≡ [] → file_lines text ≡ []
none-left text e = ap file_lines e ∙ no_line

pub behind-drop : (text : List ℕ) → file_lines (behind_line text) ≡ drop 1 (file_lines text)
behind-drop [] = no_line ∙ sym (ap (drop 1) no_line)
behind-drop (b ∷ text) = sym (ap (drop 1) (next_line (b ∷ text) (λ e. absurd (cc))))

pub shorter-behind : (text : List ℕ) → text ≢ [] → length (behind_line text) < length text
shorter-behind [] some = absurd (some refl)
shorter-behind (b ∷ text) some =
    let l = length-drop (position_or_len is_newline (b ∷ text) + 1) (b ∷ text) in omega (arith, l)

pub nets-end : (path : List (List ℕ)) (nets : List WaveNet) (text rest line behind : List ℕ) → rest ≢ [] → line ≡ first_line rest → behind ≡ behind_line rest
    → bytes_eq line last_line ≡ true → read_nets [] [] (file_lines text) ≡ read_nets path nets (file_lines rest)
    → read_nets [] [] (file_lines text) ≡ (nets, file_lines behind)
nets-end path nets text rest line behind some line_is behind_is is_so so_far =
    so_far ∙ ap (read_nets path nets) (next_line rest some)
    ∙ cond-true (bytes_eq (first_line rest) last_line) (nets, file_lines (behind_line rest))
    (read_nets (path_after path (first_line rest)) (nets ++ nets_in path (first_line rest)) (file_lines (behind_line rest)))
    (ap (λ l. bytes_eq l last_line) (sym line_is) ∙ is_so)
    ∙ ap (λ t. (nets, file_lines t)) (sym behind_is)

pub nets-more : (path path' : List (List ℕ)) (nets nets' : List WaveNet) (text rest line behind : List ℕ) → rest ≢ [] → line ≡ first_line rest
    → behind ≡ behind_line rest → bytes_eq line last_line ≡ false → nets' ≡ nets ++ nets_in path line → path' ≡ path_after path line
    → read_nets [] [] (file_lines text) ≡ read_nets path nets (file_lines rest)
    → read_nets [] [] (file_lines text) ≡ read_nets path' nets' (file_lines behind)
nets-more path path' nets nets' text rest line behind some line_is behind_is is_not nets_are path_is so_far =
    so_far ∙ ap (read_nets path nets) (next_line rest some)
    ∙ cond-false (bytes_eq (first_line rest) last_line) (nets, file_lines (behind_line rest))
    (read_nets (path_after path (first_line rest)) (nets ++ nets_in path (first_line rest)) (file_lines (behind_line rest)))
    (ap (λ l. bytes_eq l last_line) (sym line_is) ∙ is_not)
    ∙ ap (λ l. read_nets (path_after path l) (nets ++ nets_in path l) (file_lines (behind_line rest))) (sym line_is)
    ∙ ap (λ p. read_nets p (nets ++ nets_in path line) (file_lines (behind_line rest))) (sym path_is)
    ∙ ap (λ ns. read_nets path' ns (file_lines (behind_line rest))) (sym nets_are)
    ∙ ap (λ t. read_nets path' nets' (file_lines t)) (sym behind_is)

-- ---- rows
pub rows-line : (rows : List (List ℕ)) (now rest line behind : List ℕ) (total : List (List ℕ)) → rest ≢ [] → line ≡ first_line rest → behind ≡ behind_line rest
    → rows ++ read_rows now (file_lines rest) ≡ total → rows ++ read_rows now (line ∷ file_lines behind) ≡ total
rows-line rows now rest line behind total some line_is behind_is so_far =
    ap (λ l. rows ++ read_rows now (l ∷ file_lines behind)) line_is
    ∙ ap (λ t. rows ++ read_rows now (first_line rest ∷ file_lines t)) behind_is
    ∙ ap (λ ls. rows ++ read_rows now ls) (sym (next_line rest some)) ∙ so_far

pub rows-end : (rows : List (List ℕ)) (now rest : List ℕ) (total : List (List ℕ)) → rest ≡ [] → rows ++ read_rows now (file_lines rest) ≡ total → rows ≡ total
rows-end rows now rest total over so_far =
    sym (append-nil rows) ∙ ap (λ ls. rows ++ read_rows now ls) (sym (none-left rest over)) ∙ so_far

pub nets-over : (path : List (List ℕ)) (nets : List WaveNet) (text rest : List ℕ) → rest ≡ []
    → read_nets [] [] (file_lines text) ≡ read_nets path nets (file_lines rest) → read_nets [] [] (file_lines text) ≡ (nets, file_lines rest)
nets-over path nets text rest over so_far =
    so_far ∙ ap (read_nets path nets) (none-left rest over) ∙ ap (λ ls. (nets, ls)) (sym (none-left rest over))

pub length_noted : (now line : List ℕ) → length (noted now line) ≡ length now
length_noted now [] = refl
length_noted now (b ∷ l) = ⊎_elim
    (λ (t : (b == 98) ≡ true). ap length (cond-true (b == 98) (slice_set now (place_of (after_first is_space l)) (number_after 0 (before_first is_space l)))
    (slice_set now (place_of l) (b - 48)) t) ∙ length-set now (place_of (after_first is_space l)) (number_after 0 (before_first is_space l)))
    (λ (t : (b == 98) ≡ false). ap length (cond-false (b == 98) (slice_set now (place_of (after_first is_space l)) (number_after 0 (before_first is_space l)))
    (slice_set now (place_of l) (b - 48)) t) ∙ length-set now (place_of l) (b - 48))
    (cases_Bool (b == 98))

pub rows-first : (nets : ℕ) (text now behind : List ℕ) (rows : List (List ℕ)) → rows ≡ [] → now ≡ replicate nets 0 → behind ≡ behind_line text
    → rows ++ read_rows now (file_lines behind) ≡ rows_of nets text
rows-first nets text now behind rows none zeros is =
    ap (λ rs. rs ++ read_rows now (file_lines behind)) none ∙ ap (λ n. read_rows n (file_lines behind)) zeros
    ∙ ap (λ t. read_rows (replicate nets 0) (file_lines t)) is ∙ ap (read_rows (replicate nets 0)) (behind-drop text)

pub rows-refused : (nets : ℕ) (text now line now' : List ℕ) (rows rows' : List (List ℕ)) (lines : List (List ℕ)) (e : WaveError)
    → ReadsLine rows now line rows' now' (Err e) → length now ≡ nets → rows ++ read_rows now (line ∷ lines) ≡ rows_of nets text
    → ReadsRows nets text (Err e)
rows-refused nets text now line now' rows rows' lines BadWave many long is =
    subst (λ (n : ℕ). most_numbers < length (rows_of nets text) * n) long
    (subst (λ (rs : List (List ℕ)). most_numbers < length rs * length now) is (many lines))
rows-refused nets text now line now' rows rows' lines Memory many long is = tt

-- ---- the whole
-- what has this text is what is read of it
its-wave : (text : List ℕ) (w : Wave) → IsWave w → text ≡ wave_text w → wave_of text ≡ w
its-wave text w is same = ap wave_of same ∙ wave-is-read w is

pub no-candidate : (text : List ℕ) (e : WaveError) → IsCandidate text (Err e) → ReadsWave text (Err e)
no-candidate text BadWave not = λ w is same. not (subst IsWave (sym (its-wave text w is same)) is)
no-candidate text Memory free = tt

pub not-wave : (text : List ℕ) (w : Wave) → w ≡ wave_of text → (IsWave w → ⊥) → ReadsWave text (Err BadWave)
not-wave text w is not = λ v is_wave same. not (subst IsWave (sym (is ∙ its-wave text v is_wave same)) is_wave)

pub not-text : (text : List ℕ) (w : Wave) → w ≡ wave_of text → (text ≡ wave_text w → ⊥) → ReadsWave text (Err BadWave)
not-text text w is not = λ v is_wave same. not (same ∙ ap wave_text (sym (is ∙ its-wave text v is_wave same)))
