-- The lines of a row, net by net.
use Rattle.std.proofs.Common.{◌≡◌, ℕ, zero, suc, ◌+◌, ◌==◌, ◌++◌, if◌then◌else◌, Bool, true, false, eqb, cond, List, [], ◌∷◌, length, get_or, refl, ap, sym, subst, ◌∙◌, arith, ⊎_elim, append_assoc}
use Rattle.std.specs.List.{flat_map, enumerate_from}
use Rattle.std.proofs.lemmas.Bool.{cases_Bool, cond-true, cond-false}
use Rattle.wave_text.specs.declared.wave.WaveNet.{WaveNet}
use Rattle.wave_text.specs.Digits.{id_of, binary}
use Rattle.wave_text.specs.Text.{value_line, all_lines, changed_lines, text_of}

-- the line of a net's number in a row
abbrev pub net_text : List ℕ → ℕ × WaveNet → List ℕ
net_text row x = value_line x.0 x.1.width (get_or row x.0 0) ++ 10 ∷ []

-- the same, where it isn't that of the row before
abbrev pub change_text : List ℕ → List ℕ → ℕ × WaveNet → List ℕ
change_text before row x = if get_or before x.0 0 == get_or row x.0 0 then [] else net_text row x

-- what stands before the ID
abbrev pub head_text : ℕ → ℕ → List ℕ
head_text width x = if width == 1 then (48 + x) ∷ [] else 98 ∷ (binary x ++ 32 ∷ [])

next-at : (row xs : List ℕ) (n x : ℕ) → ((k : ℕ) → get_or row (n + k) 0 ≡ get_or (x ∷ xs) k 0) → (k : ℕ) → get_or row (n + 1 + k) 0 ≡ get_or xs k 0
next-at row xs n x h k = ap (λ i. get_or row i 0) (let z : n + 1 + k ≡ n + suc k = omega arith in z) ∙ h (suc k)

here-at : (row xs : List ℕ) (n x : ℕ) → ((k : ℕ) → get_or row (n + k) 0 ≡ get_or (x ∷ xs) k 0) → get_or row n 0 ≡ x
here-at row xs n x h = ap (λ i. get_or row i 0) (let z : n ≡ n + 0 = omega arith in z) ∙ h 0

all-from : (nets : List WaveNet) (row xs : List ℕ) (n : ℕ) → length xs ≡ length nets → ((k : ℕ) → get_or row (n + k) 0 ≡ get_or xs k 0)
    → flat_map (net_text row) (enumerate_from n nets) ≡ text_of (all_lines n nets xs)
all-from [] row [] n e h = refl
all-from [] row (x ∷ xs) n e h = absurd (omega (arith, e))
all-from (net ∷ nets) row [] n e h = absurd (omega (arith, e))
all-from (net ∷ nets) row (x ∷ xs) n e h =
    ap (λ y. (value_line n net.width y ++ 10 ∷ []) ++ flat_map (net_text row) (enumerate_from (n + 1) nets)) (here-at row xs n x h)
    ∙ ap (λ t. (value_line n net.width x ++ 10 ∷ []) ++ t) (all-from nets row xs (n + 1) (omega (arith, e)) (next-at row xs n x h))

pub all-text : (nets : List WaveNet) (row : List ℕ) → length row ≡ length nets
    → flat_map (net_text row) (enumerate_from 0 nets) ≡ text_of (all_lines 0 nets row)
all-text nets row e = all-from nets row row 0 e (λ k. ap (λ i. get_or row i 0) (let z : 0 + k ≡ k = omega arith in z))

text-cond : (b : Bool) (l : List ℕ) (ls : List (List ℕ)) → text_of (cond b [] (l ∷ []) ++ ls) ≡ cond b [] (l ++ 10 ∷ []) ++ text_of ls
text-cond true l ls = refl
text-cond false l ls = refl

changes-from : (nets : List WaveNet) (before row olds xs : List ℕ) (n : ℕ) → length olds ≡ length nets → length xs ≡ length nets
    → ((k : ℕ) → get_or before (n + k) 0 ≡ get_or olds k 0) → ((k : ℕ) → get_or row (n + k) 0 ≡ get_or xs k 0)
    → flat_map (change_text before row) (enumerate_from n nets) ≡ text_of (changed_lines n nets olds xs)
changes-from [] before row [] [] n d e g h = refl
changes-from [] before row (a ∷ olds) xs n d e g h = absurd (omega (arith, d))
changes-from [] before row [] (x ∷ xs) n d e g h = absurd (omega (arith, e))
changes-from (net ∷ nets) before row [] xs n d e g h = absurd (omega (arith, d))
changes-from (net ∷ nets) before row (a ∷ olds) [] n d e g h = absurd (omega (arith, e))
changes-from (net ∷ nets) before row (a ∷ olds) (x ∷ xs) n d e g h =
    let rest = flat_map (change_text before row) (enumerate_from (n + 1) nets) in
    ap (λ b. cond (eqb b (get_or row n 0)) [] (net_text row (n, net)) ++ rest) (here-at before olds n a g)
    ∙ ap (λ y. cond (eqb a y) [] (value_line n net.width y ++ 10 ∷ []) ++ rest) (here-at row xs n x h)
    ∙ ap (λ t. cond (eqb a x) [] (value_line n net.width x ++ 10 ∷ []) ++ t)
    (changes-from nets before row olds xs (n + 1) (omega (arith, d)) (omega (arith, e)) (next-at before olds n a g) (next-at row xs n x h))
    ∙ sym (text-cond (eqb a x) (value_line n net.width x) (changed_lines (n + 1) nets olds xs))

pub changes-text : (nets : List WaveNet) (before row : List ℕ) → length before ≡ length nets → length row ≡ length nets
    → flat_map (change_text before row) (enumerate_from 0 nets) ≡ text_of (changed_lines 0 nets before row)
changes-text nets before row d e = changes-from nets before row before row 0 d e (λ k. ap (λ i. get_or before i 0) (let z : 0 + k ≡ k = omega arith in z))
    (λ k. ap (λ i. get_or row i 0) (let z : 0 + k ≡ k = omega arith in z))

-- a value's line, part by part
pub value-parts : (n width x : ℕ) → head_text width x ++ (id_of n ++ 10 ∷ []) ≡ value_line n width x ++ 10 ∷ []
value-parts n width x = ⊎_elim
    (λ (t : eqb width 1 ≡ true).
    ap (λ xs. xs ++ (id_of n ++ 10 ∷ [])) (cond-true (eqb width 1) ((48 + x) ∷ []) (98 ∷ (binary x ++ 32 ∷ [])) t)
    ∙ ap (λ xs. xs ++ 10 ∷ []) (sym (cond-true (eqb width 1) ((48 + x) ∷ id_of n) (98 ∷ (binary x ++ (32 ∷ id_of n))) t)))
    (λ (t : eqb width 1 ≡ false).
    ap (λ xs. xs ++ (id_of n ++ 10 ∷ [])) (cond-false (eqb width 1) ((48 + x) ∷ []) (98 ∷ (binary x ++ 32 ∷ [])) t)
    ∙ ap (λ xs. 98 ∷ xs) (append_assoc (binary x) (32 ∷ []) (id_of n ++ 10 ∷ []) ∙ sym (append_assoc (binary x) (32 ∷ id_of n) (10 ∷ [])))
    ∙ ap (λ xs. xs ++ 10 ∷ []) (sym (cond-false (eqb width 1) ((48 + x) ∷ id_of n) (98 ∷ (binary x ++ (32 ∷ id_of n))) t)))
    (cases_Bool (eqb width 1))
