-- Lines that are printed one after the other.
use Rattle.std.proofs.Common.{◌≡◌, ℕ, ◌+◌, ◌<◌, ◌≤◌, ◌++◌, List, [], ◌∷◌, length, drop, map, get_or, codes, decimal, refl, ap, sym, subst, ◌∙◌, arith, append_assoc, append-nil, flat_map, Option, Some, All}
use Rattle.std.proofs.lemmas.List.{drop_more, drop_all}
use Rattle.std.proofs.lemmas.List.Concat.{flat_map-append}
use Rattle.wave_text.specs.declared.wave.WaveNet.{WaveNet}
use Rattle.wave_text.specs.Digits.{id_of}
use Rattle.wave_text.specs.Names.{path_of, base_of}
use Rattle.wave_text.specs.Parts.{IsBase, IsInside}
use Rattle.wave_text.specs.Text.{line, ends, scope_line, up_line, var_line, last_line, ups, moves, net_lines, mark, row_changes, row_lines, text_of}
use Rattle.wave_text.proofs.Inside.{base-path, inside-path}

pub text-append : (ls ms : List (List ℕ)) → text_of (ls ++ ms) ≡ text_of ls ++ text_of ms
text-append ls ms = flat_map-append (λ l. l ++ 10 ∷ []) ls ms

-- what is printed of lines, and what follows
more : (done total l : List ℕ) (ls ms : List (List ℕ)) → done ++ text_of (ls ++ ms) ≡ total → l ≡ text_of ls → (done ++ l) ++ text_of ms ≡ total
more done total l ls ms so_far is =
    append_assoc done l (text_of ms) ∙ ap (λ t. done ++ (t ++ text_of ms)) is ∙ ap (λ t. done ++ t) (sym (text-append ls ms)) ∙ so_far

-- ---- paths
pub scopes-more : (name first inside done total : List ℕ) → IsInside name first inside
    → done ++ text_of (map scope_line (path_of name)) ≡ total
    → (done ++ (scope_line first ++ 10 ∷ [])) ++ text_of (map scope_line (path_of inside)) ≡ total
scopes-more name first inside done total is so_far =
    append_assoc done (scope_line first ++ 10 ∷ []) (text_of (map scope_line (path_of inside)))
    ∙ ap (λ p. done ++ text_of (map scope_line p)) (sym (inside-path name first inside is)) ∙ so_far

pub scopes-end : (name done total : List ℕ) → IsBase name → done ++ text_of (map scope_line (path_of name)) ≡ total → done ≡ total
scopes-end name done total is so_far =
    sym (append-nil done) ∙ ap (λ p. done ++ text_of (map scope_line p)) (sym (base-path name is)) ∙ so_far

pub ups-more : (name first inside done total : List ℕ) → IsInside name first inside
    → done ++ text_of (ups (length (path_of name))) ≡ total
    → (done ++ (up_line ++ 10 ∷ [])) ++ text_of (ups (length (path_of inside))) ≡ total
ups-more name first inside done total is so_far =
    append_assoc done (up_line ++ 10 ∷ []) (text_of (ups (length (path_of inside))))
    ∙ ap (λ p. done ++ text_of (ups (length p))) (sym (inside-path name first inside is)) ∙ so_far

pub ups-end : (name done total : List ℕ) → IsBase name → done ++ text_of (ups (length (path_of name))) ≡ total → done ≡ total
ups-end name done total is so_far =
    sym (append-nil done) ∙ ap (λ p. done ++ text_of (ups (length p))) (sym (base-path name is)) ∙ so_far

-- ---- nets
pub var-text : (n : ℕ) (x : WaveNet)
    → codes "$var wire " ++ (decimal x.width ++ (32 ∷ ((id_of n ++ 32 ∷ []) ++ (base_of x.name ++ (32 ∷ (ends ++ 10 ∷ []))))))
    ≡ var_line n x ++ 10 ∷ []
var-text n x =
    let d = decimal x.width in
    let i = id_of n in
    let b = base_of x.name in
    ap (λ t. codes "$var wire " ++ t)
    (ap (λ t. d ++ (32 ∷ ((i ++ 32 ∷ []) ++ t))) (sym (append_assoc b (32 ∷ ends) (10 ∷ [])))
    ∙ ap (λ t. d ++ (32 ∷ t)) (append_assoc i (32 ∷ []) ((b ++ 32 ∷ ends) ++ 10 ∷ []) ∙ sym (append_assoc i (32 ∷ (b ++ 32 ∷ ends)) (10 ∷ [])))
    ∙ sym (append_assoc d (32 ∷ (i ++ 32 ∷ (b ++ 32 ∷ ends))) (10 ∷ [])))

pub nets-more : (nets : List WaveNet) (n : ℕ) (x : WaveNet) (at done total : List ℕ) → n < length nets → x ≡ get_or nets n x
    → done ++ text_of (net_lines (path_of at) n (drop n nets)) ≡ total
    → ((done ++ text_of (moves (path_of at) (path_of x.name))) ++ (var_line n x ++ 10 ∷ []))
    ++ text_of (net_lines (path_of x.name) (n + 1) (drop (n + 1) nets)) ≡ total
nets-more nets n x at done total within is so_far =
    let here : drop n nets ≡ x ∷ drop (n + 1) nets = drop_more nets n x within ∙ ap (λ y. y ∷ drop (n + 1) nets) (sym is) in
    let rest = net_lines (path_of x.name) (n + 1) (drop (n + 1) nets) in
    append_assoc (done ++ text_of (moves (path_of at) (path_of x.name))) (var_line n x ++ 10 ∷ []) (text_of rest)
    ∙ more done total (text_of (moves (path_of at) (path_of x.name))) (moves (path_of at) (path_of x.name)) (var_line n x ∷ rest)
    (ap (λ xs. done ++ text_of (net_lines (path_of at) n xs)) (sym here) ∙ so_far) refl

pub nets-end : (nets : List WaveNet) (n : ℕ) (at done total : List ℕ) → length nets ≤ n
    → done ++ text_of (net_lines (path_of at) n (drop n nets)) ≡ total
    → (done ++ (up_line ++ 10 ∷ [])) ++ text_of (ups (length (path_of at))) ≡ total
nets-end nets n at done total over so_far =
    append_assoc done (up_line ++ 10 ∷ []) (text_of (ups (length (path_of at))))
    ∙ ap (λ xs. done ++ text_of (net_lines (path_of at) n xs)) (sym (drop_all n nets over)) ∙ so_far

-- ---- rows
pub rows-more : (nets : List WaveNet) (rows : List (List ℕ)) (t : ℕ) (before : Option (List ℕ)) (row done total : List ℕ) → t < length rows
    → row ≡ get_or rows t row → done ++ text_of (row_lines nets t before (drop t rows)) ≡ total
    → (done ++ text_of (mark t ∷ row_changes nets before row)) ++ text_of (row_lines nets (t + 1) (Some row) (drop (t + 1) rows)) ≡ total
rows-more nets rows t before row done total within is so_far =
    let here : drop t rows ≡ row ∷ drop (t + 1) rows = drop_more rows t row within ∙ ap (λ y. y ∷ drop (t + 1) rows) (sym is) in
    more done total (text_of (mark t ∷ row_changes nets before row)) (mark t ∷ row_changes nets before row)
    (row_lines nets (t + 1) (Some row) (drop (t + 1) rows))
    (ap (λ xs. done ++ text_of (row_lines nets t before xs)) (sym here) ∙ so_far) refl

pub rows-end : (nets : List WaveNet) (rows : List (List ℕ)) (t n : ℕ) (before : Option (List ℕ)) (done total : List ℕ) → length rows ≤ t
    → n ≡ t → done ++ text_of (row_lines nets t before (drop t rows)) ≡ total → done ++ (mark n ++ 10 ∷ []) ≡ total
rows-end nets rows t n before done total over is so_far =
    ap (λ k. done ++ (mark k ++ 10 ∷ [])) is ∙ ap (λ x. done ++ x) (sym (append-nil (mark t ++ 10 ∷ [])))
    ∙ ap (λ xs. done ++ text_of (row_lines nets t before xs)) (sym (drop_all t rows over)) ∙ so_far
