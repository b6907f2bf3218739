-- The text of a wave is read as this wave.
use Rattle.std.proofs.Common.{◌≡◌, ℕ, zero, suc, ◌+◌, ◌^◌, ◌==◌, ◌≤◌, ◌<◌, ◌&&◌, ◌++◌, Bool, true, false, leb, cond, List, [], ◌∷◌, map, length, replicate, drop, codes, decimal, All}
use Rattle.std.proofs.Common.{⊎_elim, refl, ap, ◌∙◌, arith, append_assoc, le-leb, Option, Some, None}
use Rattle.std.specs.Str.{bytes_eq}
use Rattle.std.specs.List.{list_all}
use Rattle.std.proofs.lemmas.Bool.{cases_Bool, cond-true, cond-false, and_parts, and_from}
use Rattle.std.proofs.lemmas.List.Elements.{All-head, All-tail}
use Rattle.std.proofs.lemmas.List.Folds.{list_all-append}
use Rattle.vidi_lines.specs.Lines.{file_lines}
use Rattle.wave_text.specs.declared.wave.WaveNet.{WaveNet}
use Rattle.wave_text.specs.declared.wave.Wave.{Wave}
use Rattle.wave_text.specs.Digits.{id_of, binary}
use Rattle.wave_text.specs.Names.{parts, path_of, base_of}
use Rattle.wave_text.specs.Reading.{word_at, read_nets, first_line, behind_line, wave_with, wave_of}
use Rattle.wave_text.specs.Text.{ends, scope_line, up_line, last_line, time_line, var_line, ups, out_and_in, moves, net_lines, declarations}
use Rattle.wave_text.specs.Text.{mark, value_line, all_lines, changed_lines, row_changes, row_lines, wave_lines, text_of, wave_text}
use Rattle.wave_text.specs.Wave.{most_numbers}
use Rattle.wave_text.proofs.Joined.{is_word, is_line, are_words, are_lines, looser, both-lines, line-is, line-front, line-back, lines-text}
use Rattle.wave_text.proofs.Digits.{word-id, word-binary}
use Rattle.wave_text.proofs.Widths.{word-decimal}
use Rattle.wave_text.proofs.Nets.{IsPlain, scope-name, front-words, last-word, read-all}
use Rattle.wave_text.proofs.Rows.{AreSmall, read-all-rows}

both : (xs ys : List (List ℕ)) → are_lines xs ≡ true → are_lines ys ≡ true → are_lines (xs ++ ys) ≡ true
both xs ys h k = list_all-append is_line xs ys ∙ and_from (are_lines xs) (are_lines ys) h k

add : (l : List ℕ) (ls : List (List ℕ)) → is_line l ≡ true → are_lines ls ≡ true → are_lines (l ∷ ls) ≡ true
add l ls h k = and_from (is_line l) (are_lines ls) h k

scope-line : (name : List ℕ) → is_word name ≡ true → is_line (scope_line name) ≡ true
scope-line name h = line-is (codes "$scope") (codes "module" ∷ name ∷ ends ∷ []) (and_from (is_word name) true h refl)

ups-lines : (n : ℕ) → are_lines (ups n) ≡ true
ups-lines zero = refl
ups-lines (suc n) = add up_line (ups n) refl (ups-lines n)

scope-lines : (zs : List (List ℕ)) → are_words zs ≡ true → are_lines (map scope_line zs) ≡ true
scope-lines [] h = refl
scope-lines (z ∷ zs) h = let t = and_parts (is_word z) (are_words zs) h in
    add (scope_line z) (map scope_line zs) (scope-line z t.0) (scope-lines zs t.1)

var-line : (n : ℕ) (x : WaveNet) → IsPlain x → is_line (var_line n x) ≡ true
var-line n x plain =
    let d = decimal x.width in
    let b = base_of x.name in
    line-is (codes "$var") (codes "wire" ∷ d ∷ id_of n ∷ b ∷ ends ∷ [])
    (and_from (is_word d) (is_word (id_of n) && (is_word b && true)) (word-decimal x.width (let small = plain.1 in omega (arith, small)))
    (and_from (is_word (id_of n)) (is_word b && true) (word-id n) (and_from (is_word b) true (last-word (parts x.name) plain.0) refl)))

out_and_in-lines : (from to : List (List ℕ)) → are_words to ≡ true → are_lines (out_and_in from to) ≡ true
out_and_in-lines from to h = both (ups (length from)) (map scope_line to) (ups-lines (length from)) (scope-lines to h)

moves-lines : (from to : List (List ℕ)) → are_words to ≡ true → are_lines (moves from to) ≡ true
moves-lines [] to h = out_and_in-lines [] to h
moves-lines (x ∷ from) [] h = out_and_in-lines (x ∷ from) [] h
moves-lines (x ∷ from) (y ∷ to) h = ⊎_elim
    (λ (t : bytes_eq x y ≡ true). ap are_lines (cond-true (bytes_eq x y) (moves from to) (out_and_in (x ∷ from) (y ∷ to)) t)
    ∙ moves-lines from to (and_parts (is_word y) (are_words to) h).1)
    (λ (t : bytes_eq x y ≡ false). ap are_lines (cond-false (bytes_eq x y) (moves from to) (out_and_in (x ∷ from) (y ∷ to)) t)
    ∙ out_and_in-lines (x ∷ from) (y ∷ to) h)
    (cases_Bool (bytes_eq x y))

net-lines : (nets : List WaveNet) (at : List (List ℕ)) (n : ℕ) → All IsPlain nets → are_lines (net_lines at n nets) ≡ true
net-lines [] at n plain = add up_line (ups (length at)) refl (ups-lines (length at))
net-lines (x ∷ nets) at n plain =
    let p = path_of x.name in
    let here = All-head IsPlain x nets plain in
    both (moves at p) (var_line n x ∷ net_lines p (n + 1) nets) (moves-lines at p (front-words (parts x.name) here.0))
    (add (var_line n x) (net_lines p (n + 1) nets) (var-line n x here) (net-lines nets p (n + 1) (All-tail IsPlain x nets plain)))

value-line : (n width x : ℕ) → is_line (value_line n width x) ≡ true
value-line n width x = ⊎_elim
    (λ (t : (width == 1) ≡ true). ap is_line (cond-true (width == 1) ((48 + x) ∷ id_of n) (98 ∷ (binary x ++ 32 ∷ id_of n)) t)
    ∙ and_from (leb 11 (48 + x)) (is_line (id_of n)) (le-leb 11 (48 + x) (omega arith)) (looser (id_of n) (word-id n)))
    (λ (t : (width == 1) ≡ false). ap is_line (cond-false (width == 1) ((48 + x) ∷ id_of n) (98 ∷ (binary x ++ 32 ∷ id_of n)) t)
    ∙ both-lines (binary x) (32 ∷ id_of n) (looser (binary x) (word-binary x)) (looser (id_of n) (word-id n)))
    (cases_Bool (width == 1))

all-lines : (nets : List WaveNet) (xs : List ℕ) (n : ℕ) → are_lines (all_lines n nets xs) ≡ true
all-lines [] [] n = refl
all-lines [] (x ∷ xs) n = refl
all-lines (net ∷ nets) [] n = refl
all-lines (net ∷ nets) (x ∷ xs) n =
    add (value_line n net.width x) (all_lines (n + 1) nets xs) (value-line n net.width x) (all-lines nets xs (n + 1))

changed-lines : (nets : List WaveNet) (before xs : List ℕ) (n : ℕ) → are_lines (changed_lines n nets before xs) ≡ true
changed-lines [] [] [] n = refl
changed-lines [] [] (x ∷ xs) n = refl
changed-lines [] (a ∷ before) [] n = refl
changed-lines [] (a ∷ before) (x ∷ xs) n = refl
changed-lines (net ∷ nets) [] [] n = refl
changed-lines (net ∷ nets) [] (x ∷ xs) n = refl
changed-lines (net ∷ nets) (a ∷ before) [] n = refl
changed-lines (net ∷ nets) (a ∷ before) (x ∷ xs) n =
    let line = value_line n net.width x in
    both (cond (a == x) [] (line ∷ [])) (changed_lines (n + 1) nets before xs)
    (⊎_elim
    (λ (t : (a == x) ≡ true). ap are_lines (cond-true (a == x) [] (line ∷ []) t))
    (λ (t : (a == x) ≡ false). ap are_lines (cond-false (a == x) [] (line ∷ []) t) ∙ add line [] (value-line n net.width x) refl)
    (cases_Bool (a == x)))
    (changed-lines nets before xs (n + 1))

change-lines : (nets : List WaveNet) (before : Option (List ℕ)) (row : List ℕ) → are_lines (row_changes nets before row) ≡ true
change-lines nets None row = all-lines nets row 0
change-lines nets (Some before) row = changed-lines nets before row 0

row-lines : (nets : List WaveNet) (rows : List (List ℕ)) (before : Option (List ℕ)) (t : ℕ) → t + length rows < 2 ^ 64
    → are_lines (row_lines nets t before rows) ≡ true
row-lines nets [] before t small = add (mark t) [] (looser (decimal t) (word-decimal t (omega (arith, small)))) refl
row-lines nets (row ∷ rows) before t small =
    add (mark t) (row_changes nets before row ++ row_lines nets (t + 1) (Some row) rows) (looser (decimal t) (word-decimal t (omega (arith, small))))
    (both (row_changes nets before row) (row_lines nets (t + 1) (Some row) rows) (change-lines nets before row)
    (row-lines nets rows (Some row) (t + 1) (omega (arith, small))))

-- what a wave has to be for this
pub record IsTold (w : Wave) : Type 0 where
  pub top : is_word w.top ≡ true
  pub plain : All IsPlain w.nets
  pub small : All (AreSmall w.nets) w.rows
  pub few : 0 < length w.rows → length w.nets ≤ most_numbers
  pub rows : length w.rows < 2 ^ 64

-- the lines behind those of the time and the top
abbrev body : Wave → List (List ℕ)
body w = net_lines [] 0 w.nets ++ (last_line ∷ row_lines w.nets 0 None w.rows)

same-lines : (w : Wave) → wave_lines w ≡ time_line ∷ scope_line w.top ∷ body w
same-lines w = ap (λ ls. time_line ∷ scope_line w.top ∷ ls) (append_assoc (net_lines [] 0 w.nets) (last_line ∷ []) (row_lines w.nets 0 None w.rows))

good-body : (w : Wave) → IsTold w → are_lines (body w) ≡ true
good-body w is =
    let rest = row_lines w.nets 0 None w.rows in
    both (net_lines [] 0 w.nets) (last_line ∷ rest) (net-lines w.nets [] 0 is.plain)
    (add last_line rest refl (row-lines w.nets w.rows None 0 (let f = is.rows in omega (arith, f))))

pub told-is-read : (w : Wave) → IsTold w → wave_of (wave_text w) ≡ w
told-is-read w is =
    let rest = row_lines w.nets 0 None w.rows in
    let top = scope-line w.top is.top in
    let whole : behind_line (text_of (time_line ∷ scope_line w.top ∷ body w)) ≡ text_of (scope_line w.top ∷ body w) =
    line-back time_line (scope_line w.top ∷ body w) refl in
    ap (λ ls. wave_of (text_of ls)) (same-lines w)
    ∙ ap (λ t. wave_with (word_at 2 (first_line t)) (read_nets [] [] (file_lines (behind_line t)))) whole
    ∙ ap (λ l. wave_with (word_at 2 l) (read_nets [] [] (file_lines (behind_line (text_of (scope_line w.top ∷ body w))))))
    (line-front (scope_line w.top) (body w) top)
    ∙ ap (λ name. wave_with name (read_nets [] [] (file_lines (behind_line (text_of (scope_line w.top ∷ body w)))))) (scope-name w.top is.top)
    ∙ ap (λ t. wave_with w.top (read_nets [] [] (file_lines t))) (line-back (scope_line w.top) (body w) top)
    ∙ ap (λ ls. wave_with w.top (read_nets [] [] ls)) (lines-text (body w) (good-body w is))
    ∙ ap (wave_with w.top) (read-all w.nets [] 0 [] rest is.plain)
    ∙ ap (λ rows. record { top = w.top; nets = w.nets; rows = rows }) (read-all-rows w.nets w.rows is.small is.few)
