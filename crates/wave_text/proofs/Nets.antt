-- The lines of nets are read as these nets.
use Rattle.std.proofs.Common.{◌≡◌, ℕ, zero, suc, ◌+◌, ◌==◌, ◌^◌, ◌≤◌, ◌<◌, ◌&&◌, ◌++◌, Bool, true, false, cond, List, [], ◌∷◌, map, length, decimal, codes, All}
use Rattle.std.proofs.Common.{⊎_elim, refl, ap, sym, ◌∙◌, arith, append_assoc, append-nil}
use Rattle.std.specs.List.{list_all, join_with_byte, before_first, after_first}
use Rattle.std.specs.Str.{bytes_eq}
use Rattle.std.proofs.lemmas.Bool.{cases_Bool, cond-true, cond-false, and_parts, and_from}
use Rattle.std.proofs.lemmas.List.Elements.{All-head, All-tail}
use Rattle.std.proofs.lemmas.List.Splits.{length-slice_split, join_with_byte-slice_split}
use Rattle.std.proofs.lemmas.Slice.Eq.{bytes_eq-Decides}
use Rattle.wave_text.specs.declared.wave.WaveNet.{WaveNet}
use Rattle.wave_text.specs.Digits.{id_of}
use Rattle.wave_text.specs.Names.{is_dot, parts, but_last, last_of, path_of, base_of}
use Rattle.wave_text.specs.Reading.{is_space, word_at, width_of, net_in, path_after, nets_in, read_nets}
use Rattle.wave_text.specs.Text.{ends, line, scope_line, up_line, last_line, var_line, ups, out_and_in, moves, net_lines}
use Rattle.wave_text.proofs.Joined.{is_word, are_words, word-front, word-back}
use Rattle.wave_text.proofs.Digits.{word-id}
use Rattle.wave_text.proofs.Widths.{word-decimal, width-decimal}

-- ---- what a line says
pub scope-name : (name : List ℕ) → is_word name ≡ true → word_at 2 (scope_line name) ≡ name
scope-name name h = word-front name ends h

-- a net that is declared so that it is read again
abbrev pub IsPlain : WaveNet → Type 0
IsPlain x = (are_words (parts x.name) ≡ true) × (x.width ≤ 128)

pub last-word : (ps : List (List ℕ)) → are_words ps ≡ true → is_word (last_of ps) ≡ true
last-word [] h = refl
last-word (p ∷ []) h = (and_parts (is_word p) true h).0
last-word (p ∷ q ∷ ps) h = last-word (q ∷ ps) (and_parts (is_word p) (are_words (q ∷ ps)) h).1

pub front-words : (ps : List (List ℕ)) → are_words ps ≡ true → are_words (but_last ps) ≡ true
front-words [] h = refl
front-words (p ∷ []) h = refl
front-words (p ∷ q ∷ ps) h = let t = and_parts (is_word p) (are_words (q ∷ ps)) h in
    and_from (is_word p) (are_words (but_last (q ∷ ps))) t.0 (front-words (q ∷ ps) t.1)

var-width : (n : ℕ) (x : WaveNet) → x.width ≤ 128 → word_at 2 (var_line n x) ≡ decimal x.width
var-width n x small = word-front (decimal x.width) (line (id_of n ∷ base_of x.name ∷ ends ∷ [])) (word-decimal x.width (omega (arith, small)))

var-base : (n : ℕ) (x : WaveNet) → IsPlain x → word_at 4 (var_line n x) ≡ base_of x.name
var-base n x plain =
    let b = base_of x.name in
    ap (λ l. before_first is_space (after_first is_space l))
    (word-back (decimal x.width) (line (id_of n ∷ b ∷ ends ∷ [])) (word-decimal x.width (let small = plain.1 in omega (arith, small))))
    ∙ ap (before_first is_space) (word-back (id_of n) (line (b ∷ ends ∷ [])) (word-id n))
    ∙ word-front b ends (last-word (parts x.name) plain.0)

-- ---- one line
read-scope : (at : List (List ℕ)) (seen : List WaveNet) (name : List ℕ) (lines : List (List ℕ)) → is_word name ≡ true
    → read_nets at seen (scope_line name ∷ lines) ≡ read_nets (at ++ name ∷ []) seen lines
read-scope at seen name lines h =
    ap (λ w. read_nets (at ++ w ∷ []) (seen ++ []) lines) (scope-name name h)
    ∙ ap (λ s. read_nets (at ++ name ∷ []) s lines) (append-nil seen)

read-up : (at : List (List ℕ)) (seen : List WaveNet) (lines : List (List ℕ)) → read_nets at seen (up_line ∷ lines) ≡ read_nets (but_last at) seen lines
read-up at seen lines = ap (λ s. read_nets (but_last at) s lines) (append-nil seen)

read-var : (at : List (List ℕ)) (seen : List WaveNet) (n : ℕ) (x : WaveNet) (lines : List (List ℕ)) → IsPlain x
    → read_nets at seen (var_line n x ∷ lines) ≡ read_nets at (seen ++ net_in at x.width (base_of x.name) ∷ []) lines
read-var at seen n x lines plain =
    ap (λ w. read_nets at (seen ++ net_in at (width_of w) (word_at 4 (var_line n x)) ∷ []) lines) (var-width n x plain.1)
    ∙ ap (λ w. read_nets at (seen ++ net_in at w (word_at 4 (var_line n x)) ∷ []) lines) (width-decimal x.width plain.1)
    ∙ ap (λ b. read_nets at (seen ++ net_in at x.width b ∷ []) lines) (var-base n x plain)

-- ---- out of scopes
abbrev popped : ℕ → List (List ℕ) → List (List ℕ)
popped zero at = at
popped (suc m) at = popped m (but_last at)

read-ups : (m : ℕ) (at : List (List ℕ)) (seen : List WaveNet) (rest : List (List ℕ))
    → read_nets at seen (ups m ++ rest) ≡ read_nets (popped m at) seen rest
read-ups zero at seen rest = refl
read-ups (suc m) at seen rest = read-up at seen (ups m ++ rest) ∙ read-ups m (but_last at) seen rest

but_last-append : (xs : List (List ℕ)) (y : List ℕ) (ys : List (List ℕ)) → but_last (xs ++ y ∷ ys) ≡ xs ++ but_last (y ∷ ys)
but_last-append [] y ys = refl
but_last-append (x ∷ []) y ys = refl
but_last-append (x ∷ z ∷ xs) y ys = ap (λ l. x ∷ l) (but_last-append (z ∷ xs) y ys)

length-but_last : (y : List ℕ) (ys : List (List ℕ)) → length (but_last (y ∷ ys)) ≡ length ys
length-but_last y [] = refl
length-but_last y (z ∷ ys) = ap suc (length-but_last z ys)

popped-back : (n : ℕ) (xs ys : List (List ℕ)) → length ys ≡ n → popped n (xs ++ ys) ≡ xs
popped-back zero xs [] e = append-nil xs
popped-back zero xs (y ∷ ys) e = absurd (omega (arith, e))
popped-back (suc n) xs [] e = absurd (omega (arith, e))
popped-back (suc n) xs (y ∷ ys) e = ap (popped n) (but_last-append xs y ys)
    ∙ popped-back n xs (but_last (y ∷ ys)) (let l = length-but_last y ys in omega (arith, l, e))

-- ---- into scopes
read-scopes : (zs at : List (List ℕ)) (seen : List WaveNet) (rest : List (List ℕ)) → are_words zs ≡ true
    → read_nets at seen (map scope_line zs ++ rest) ≡ read_nets (at ++ zs) seen rest
read-scopes [] at seen rest h = ap (λ xs. read_nets xs seen rest) (sym (append-nil at))
read-scopes (z ∷ zs) at seen rest h = let t = and_parts (is_word z) (are_words zs) h in
    read-scope at seen z (map scope_line zs ++ rest) t.0
    ∙ read-scopes zs (at ++ z ∷ []) seen rest t.1
    ∙ ap (λ xs. read_nets xs seen rest) (append_assoc at (z ∷ []) zs)

read-out_and_in : (front from to : List (List ℕ)) (seen : List WaveNet) (rest : List (List ℕ)) → are_words to ≡ true
    → read_nets (front ++ from) seen (out_and_in from to ++ rest) ≡ read_nets (front ++ to) seen rest
read-out_and_in front from to seen rest h =
    ap (read_nets (front ++ from) seen) (append_assoc (ups (length from)) (map scope_line to) rest)
    ∙ read-ups (length from) (front ++ from) seen (map scope_line to ++ rest)
    ∙ ap (λ at. read_nets at seen (map scope_line to ++ rest)) (popped-back (length from) front from refl)
    ∙ read-scopes to front seen rest h

read-moves : (front from to : List (List ℕ)) (seen : List WaveNet) (rest : List (List ℕ)) → are_words to ≡ true
    → read_nets (front ++ from) seen (moves from to ++ rest) ≡ read_nets (front ++ to) seen rest
read-moves front [] to seen rest h = read-out_and_in front [] to seen rest h
read-moves front (x ∷ from) [] seen rest h = read-out_and_in front (x ∷ from) [] seen rest h
read-moves front (x ∷ from) (y ∷ to) seen rest h = ⊎_elim
    (λ (t : bytes_eq x y ≡ true).
    ap (λ ls. read_nets (front ++ x ∷ from) seen (ls ++ rest))
    (cond-true (bytes_eq x y) (moves from to) (out_and_in (x ∷ from) (y ∷ to)) t)
    ∙ ap (λ at. read_nets at seen (moves from to ++ rest)) (sym (append_assoc front (x ∷ []) from))
    ∙ read-moves (front ++ x ∷ []) from to seen rest (and_parts (is_word y) (are_words to) h).1
    ∙ ap (λ at. read_nets at seen rest) (append_assoc front (x ∷ []) to)
    ∙ ap (λ z. read_nets (front ++ z ∷ to) seen rest) ((bytes_eq-Decides x y).0 t))
    (λ (t : bytes_eq x y ≡ false).
    ap (λ ls. read_nets (front ++ x ∷ from) seen (ls ++ rest))
    (cond-false (bytes_eq x y) (moves from to) (out_and_in (x ∷ from) (y ∷ to)) t)
    ∙ read-out_and_in front (x ∷ from) (y ∷ to) seen rest h)
    (cases_Bool (bytes_eq x y))

-- ---- a net
whole-again : (ps : List (List ℕ)) → 0 < length ps → but_last ps ++ last_of ps ∷ [] ≡ ps
whole-again [] l = absurd (omega (arith, l))
whole-again (p ∷ []) l = refl
whole-again (p ∷ q ∷ ps) l = ap (λ xs. p ∷ xs) (whole-again (q ∷ ps) (omega arith))

net-again : (x : WaveNet) → net_in (path_of x.name) x.width (base_of x.name) ≡ x
net-again x =
    let some : 0 < length (parts x.name) = let n = length-slice_split is_dot x.name in omega (arith, n) in
    ap (λ name. record { name = name; width = x.width })
    (ap (join_with_byte 46) (whole-again (parts x.name) some) ∙ join_with_byte-slice_split 46 x.name)

pub read-all : (nets : List WaveNet) (at : List (List ℕ)) (n : ℕ) (seen : List WaveNet) (rest : List (List ℕ)) → All IsPlain nets
    → read_nets at seen (net_lines at n nets ++ (last_line ∷ rest)) ≡ (seen ++ nets, rest)
read-all [] at n seen rest plain =
    read-up at seen (ups (length at) ++ (last_line ∷ rest)) ∙ read-ups (length at) (but_last at) seen (last_line ∷ rest)
    ∙ ap (λ s. (s, rest)) (sym (append-nil seen))
read-all (x ∷ nets) at n seen rest plain =
    let p = path_of x.name in
    let behind = net_lines p (n + 1) nets ++ (last_line ∷ rest) in
    let here = All-head IsPlain x nets plain in
    ap (read_nets at seen) (append_assoc (moves at p) (var_line n x ∷ net_lines p (n + 1) nets) (last_line ∷ rest))
    ∙ read-moves [] at p seen (var_line n x ∷ behind) (front-words (parts x.name) here.0)
    ∙ read-var p seen n x behind here
    ∙ ap (λ y. read_nets p (seen ++ y ∷ []) behind) (net-again x)
    ∙ read-all nets p (n + 1) (seen ++ x ∷ []) rest (All-tail IsPlain x nets plain)
    ∙ ap (λ s. (s, rest)) (append_assoc seen (x ∷ []) nets)
