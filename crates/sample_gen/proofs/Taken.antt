-- Lines that are taken off a text one by one.
use Rattle.std.proofs.Common.{◌≡◌, ℕ, zero, suc, ◌+◌, ◌<◌, ◌≤◌, ◌&&◌, Bool, true, false, not, List, [], ◌∷◌, ◌++◌, map, length}
use Rattle.std.proofs.Common.{refl, sym, ap, ◌∙◌, arith, ⊎_elim}
use Rattle.std.specs.List.{slice_split, list_all, range_with_len}
use Rattle.std.proofs.lemmas.List.Splits.{length-slice_split}
use Rattle.std.proofs.lemmas.Bool.{and_parts, cases_lt}
use Rattle.env_script.specs.vidi_lines.Lines.{is_newline, unless_last_empty, file_lines, line_unless_bad}
use Rattle.env_script.specs.Reasons.{read_lines}

-- no byte of it ends a line
abbrev pub is_line : List ℕ → Bool
is_line [] = true
is_line (b ∷ text) = not (is_newline b) && is_line text

pub off : (b : Bool) → not b ≡ true → b ≡ false
off true h = sym h
off false h = refl

split : (a rest : List ℕ) → is_line a ≡ true → slice_split is_newline (a ++ 10 ∷ rest) ≡ a ∷ slice_split is_newline rest
split [] rest h = refl
split (b ∷ a) rest h =
    let parts = and_parts (not (is_newline b)) (is_line a) h in
    let no : is_newline b ≡ false = off (is_newline b) parts.0 in
    rw (no, split a rest parts.1) refl

front : (part : List ℕ) (parts : List (List ℕ)) → 0 < length parts → unless_last_empty (part ∷ parts) ≡ part ∷ unless_last_empty parts
front part [] some = absurd (omega (arith, some))
front part (next ∷ parts) some = refl

lines_split : (a rest : List ℕ) → is_line a ≡ true → file_lines (a ++ 10 ∷ rest) ≡ a ∷ file_lines rest
unfolding file_lines
lines_split a rest h =
    ap unless_last_empty (split a rest h)
    ∙ front a (slice_split is_newline rest) (omega (arith, length-slice_split is_newline rest))

pub line_taken : (a rest : List ℕ) → is_line a ≡ true → read_lines (a ++ 10 ∷ rest) ≡ line_unless_bad a ∷ read_lines rest
line_taken a rest h = ap (λ (ls : List (List ℕ)). map line_unless_bad ls) (lines_split a rest h)

pub no_lines : read_lines [] ≡ []
unfolding file_lines
no_lines = refl

-- what a test of each number of a range says
pub each_in : (test : ℕ → Bool) (a n b : ℕ) → list_all test (range_with_len a n) ≡ true → a ≤ b → b < a + n → test b ≡ true
each_in test a zero b all low high = absurd (omega (arith, low, high))
each_in test a (suc n) b all low high =
    let parts = and_parts (test a) (list_all test (range_with_len (a + 1) n)) all in
    ⊎_elim
    (λ (more : a < b). each_in test (a + 1) n b parts.1 (omega (arith, more)) (omega (arith, high)))
    (λ (same : b ≤ a). let e : a ≡ b = omega (arith, low, same) in sym (ap test e) ∙ parts.0)
    (cases_lt a b)
