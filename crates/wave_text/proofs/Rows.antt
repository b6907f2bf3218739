-- The lines of rows are read as these rows.
use Rattle.std.proofs.Common.{◌≡◌, ℕ, zero, suc, ◌+◌, ◌-◌, ◌==◌, ◌≤◌, ◌<◌, ◌&&◌, ◌++◌, Bool, true, false, eqb, leb, cond, List, [], ◌∷◌, length, replicate, drop, All}
use Rattle.std.proofs.Common.{⊎_elim, refl, ap, sym, ◌∙◌, arith, append_assoc, length-append, le-leb, eqb-true, ne_eqb, Some, None, slice_set}
use Rattle.std.specs.List.{before_first, after_first}
use Rattle.std.proofs.lemmas.Bool.{cases_Bool, cond-true, cond-false, and_from}
use Rattle.std.proofs.lemmas.List.Elements.{All-head, All-tail}
use lib.Seq.{set_at}
use Rattle.wave_text.specs.declared.wave.WaveNet.{WaveNet}
use Rattle.wave_text.specs.Digits.{id_of, binary}
use Rattle.wave_text.specs.Reading.{is_space, noted, is_mark, place_of, number_after, largest, read_rows}
use Rattle.wave_text.specs.Text.{value_line, all_lines, changed_lines, row_lines}
use Rattle.wave_text.specs.Wave.{most_numbers}
use Rattle.wave_text.proofs.Joined.{word-front, word-back}
use Rattle.wave_text.proofs.Digits.{place-id, number-binary, word-id, word-binary}

-- ---- one value
abbrev wide : ℕ → ℕ → List ℕ
wide n x = 98 ∷ (binary x ++ 32 ∷ id_of n)

noted-bit : (now : List ℕ) (n x : ℕ) → n ≤ most_numbers → x < 2 → noted now ((48 + x) ∷ id_of n) ≡ slice_set now n x
noted-bit now n x place small =
    cond-false ((48 + x) == 98) (slice_set now (place_of (after_first is_space (id_of n))) (number_after 0 (before_first is_space (id_of n))))
    (slice_set now (place_of (id_of n)) ((48 + x) - 48)) (ne_eqb (48 + x) 98 (λ e. absurd (omega (arith, e, small))))
    ∙ ap (λ k. slice_set now k ((48 + x) - 48)) (place-id n place)
    ∙ ap (slice_set now n) (let z : (48 + x) - 48 ≡ x = omega arith in z)

noted-wide : (now : List ℕ) (n x : ℕ) → n ≤ most_numbers → x ≤ largest → noted now (wide n x) ≡ slice_set now n x
noted-wide now n x place small =
    ap (λ id. slice_set now (place_of id) (number_after 0 (before_first is_space (binary x ++ 32 ∷ id_of n)))) (word-back (binary x) (id_of n) (word-binary x))
    ∙ ap (λ ds. slice_set now (place_of (id_of n)) (number_after 0 ds)) (word-front (binary x) (id_of n) (word-binary x))
    ∙ ap (λ k. slice_set now k (number_after 0 (binary x))) (place-id n place)
    ∙ ap (slice_set now n) (number-binary x small)

not-mark : (n width x : ℕ) → is_mark (value_line n width x) ≡ false
not-mark n width x = ⊎_elim
    (λ (t : (width == 1) ≡ true). ap is_mark (cond-true (width == 1) ((48 + x) ∷ id_of n) (wide n x) t)
    ∙ ne_eqb (48 + x) 35 (λ e. absurd (omega (arith, e))))
    (λ (t : (width == 1) ≡ false). ap is_mark (cond-false (width == 1) ((48 + x) ∷ id_of n) (wide n x) t))
    (cases_Bool (width == 1))

-- a number that is printed so that it is read again
pub record IsSmall (width x : ℕ) : Type 0 where
  pub bit : width ≡ 1 → x < 2
  pub wide : x ≤ largest

noted-value : (now : List ℕ) (n width x : ℕ) → n ≤ most_numbers → IsSmall width x → noted now (value_line n width x) ≡ slice_set now n x
noted-value now n width x place small = ⊎_elim
    (λ (t : (width == 1) ≡ true). ap (noted now) (cond-true (width == 1) ((48 + x) ∷ id_of n) (wide n x) t)
    ∙ noted-bit now n x place (small.bit (eqb-true width 1 t)))
    (λ (t : (width == 1) ≡ false). ap (noted now) (cond-false (width == 1) ((48 + x) ∷ id_of n) (wide n x) t)
    ∙ noted-wide now n x place small.wide)
    (cases_Bool (width == 1))

read-value : (now : List ℕ) (n width x : ℕ) (rest : List (List ℕ)) → n ≤ most_numbers → IsSmall width x
    → read_rows now (value_line n width x ∷ rest) ≡ read_rows (slice_set now n x) rest
read-value now n width x rest place small =
    cond-false (is_mark (value_line n width x)) (now ∷ read_rows now rest) (read_rows (noted now (value_line n width x)) rest)
    (not-mark n width x)
    ∙ ap (λ m. read_rows m rest) (noted-value now n width x place small)

-- ---- the values of a row
-- a small number for each net
abbrev pub AreSmall : List WaveNet → List ℕ → Type 0
AreSmall [] [] = Unit {0}
AreSmall [] (x ∷ xs) = ⊥
AreSmall (net ∷ nets) [] = ⊥
AreSmall (net ∷ nets) (x ∷ xs) = IsSmall net.width x × AreSmall nets xs

pub small-length : (nets : List WaveNet) (xs : List ℕ) → AreSmall nets xs → length xs ≡ length nets
small-length [] [] h = refl
small-length [] (x ∷ xs) h = absurd h
small-length (net ∷ nets) [] h = absurd h
small-length (net ∷ nets) (x ∷ xs) h = ap suc (small-length nets xs h.1)

put-here : (front : List ℕ) (a x : ℕ) (before : List ℕ) (n : ℕ) → length front ≡ n
    → slice_set (front ++ a ∷ before) n x ≡ (front ++ x ∷ []) ++ before
put-here front a x before n e = set_at front a before x n e ∙ sym (append_assoc front (x ∷ []) before)

longer : (front : List ℕ) (x n : ℕ) → length front ≡ n → length (front ++ x ∷ []) ≡ n + 1
longer front x n e = length-append front (x ∷ []) ∙ (let z : length front + 1 ≡ n + 1 = omega (arith, e) in z)

read-all-values : (nets : List WaveNet) (front before xs : List ℕ) (n : ℕ) (rest : List (List ℕ)) → length front ≡ n
    → length before ≡ length nets → AreSmall nets xs → n + length nets ≤ most_numbers
    → read_rows (front ++ before) (all_lines n nets xs ++ rest) ≡ read_rows (front ++ xs) rest
read-all-values [] front [] [] n rest e b s few = refl
read-all-values [] front (a ∷ before) xs n rest e b s few = absurd (omega (arith, b))
read-all-values [] front [] (x ∷ xs) n rest e b s few = absurd s
read-all-values (net ∷ nets) front [] xs n rest e b s few = absurd (omega (arith, b))
read-all-values (net ∷ nets) front (a ∷ before) [] n rest e b s few = absurd s
read-all-values (net ∷ nets) front (a ∷ before) (x ∷ xs) n rest e b s few =
    read-value (front ++ a ∷ before) n net.width x (all_lines (n + 1) nets xs ++ rest) (omega (arith, few)) s.0
    ∙ ap (λ m. read_rows m (all_lines (n + 1) nets xs ++ rest)) (put-here front a x before n e)
    ∙ read-all-values nets (front ++ x ∷ []) before xs (n + 1) rest (longer front x n e) (omega (arith, b)) s.1 (omega (arith, few))
    ∙ ap (λ m. read_rows m rest) (append_assoc front (x ∷ []) xs)

read-changed : (nets : List WaveNet) (front before xs : List ℕ) (n : ℕ) (rest : List (List ℕ)) → length front ≡ n
    → length before ≡ length nets → AreSmall nets xs → n + length nets ≤ most_numbers
    → read_rows (front ++ before) (changed_lines n nets before xs ++ rest) ≡ read_rows (front ++ xs) rest
read-changed [] front [] [] n rest e b s few = refl
read-changed [] front (a ∷ before) xs n rest e b s few = absurd (omega (arith, b))
read-changed [] front [] (x ∷ xs) n rest e b s few = absurd s
read-changed (net ∷ nets) front [] xs n rest e b s few = absurd (omega (arith, b))
read-changed (net ∷ nets) front (a ∷ before) [] n rest e b s few = absurd s
read-changed (net ∷ nets) front (a ∷ before) (x ∷ xs) n rest e b s few =
    let more = changed_lines (n + 1) nets before xs ++ rest in
    let line = value_line n net.width x in
    let all = read_rows (front ++ a ∷ before) in
    ap all (append_assoc (cond (a == x) [] (line ∷ [])) (changed_lines (n + 1) nets before xs) rest)
    ∙ ⊎_elim
    (λ (t : (a == x) ≡ true). ap (λ ls. all (ls ++ more)) (cond-true (a == x) [] (line ∷ []) t)
    ∙ ap (λ m. read_rows m more) (ap (λ y. front ++ y ∷ before) (eqb-true a x t) ∙ sym (append_assoc front (x ∷ []) before)))
    (λ (t : (a == x) ≡ false). ap (λ ls. all (ls ++ more)) (cond-false (a == x) [] (line ∷ []) t)
    ∙ read-value (front ++ a ∷ before) n net.width x more (omega (arith, few)) s.0 ∙ ap (λ m. read_rows m more) (put-here front a x before n e))
    (cases_Bool (a == x))
    ∙ read-changed nets (front ++ x ∷ []) before xs (n + 1) rest (longer front x n e) (omega (arith, b)) s.1 (omega (arith, few))
    ∙ ap (λ m. read_rows m rest) (append_assoc front (x ∷ []) xs)

-- ---- all rows
read-begun : (nets : List WaveNet) (rows : List (List ℕ)) (now : List ℕ) (t : ℕ) → length now ≡ length nets → All (AreSmall nets) rows
    → length nets ≤ most_numbers → read_rows now (row_lines nets t (Some now) rows) ≡ now ∷ rows
read-begun nets [] now t e small few = refl
read-begun nets (row ∷ rows) now t e small few =
    let here = All-head (AreSmall nets) row rows small in
    ap (λ ls. now ∷ ls) (read-changed nets [] now row 0 (row_lines nets (t + 1) (Some row) rows) refl e here (omega (arith, few))
    ∙ read-begun nets rows row (t + 1) (small-length nets row here) (All-tail (AreSmall nets) row rows small) few)

length-zeros : (n : ℕ) → length {A = ℕ} (replicate n 0) ≡ n
length-zeros zero = refl
length-zeros (suc n) = ap suc (length-zeros n)

pub read-all-rows : (nets : List WaveNet) (rows : List (List ℕ)) → All (AreSmall nets) rows → (0 < length rows → length nets ≤ most_numbers)
    → read_rows (replicate (length nets) 0) (drop 1 (row_lines nets 0 None rows)) ≡ rows
read-all-rows nets [] small few = refl
read-all-rows nets (row ∷ rows) small few =
    let here = All-head (AreSmall nets) row rows small in
    let enough = few (omega arith) in
    read-all-values nets [] (replicate (length nets) 0) row 0 (row_lines nets 1 (Some row) rows) refl (length-zeros (length nets)) here
    (omega (arith, enough))
    ∙ read-begun nets rows row 1 (small-length nets row here) (All-tail (AreSmall nets) row rows small) enough
