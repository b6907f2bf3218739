-- Full names, taken apart at their first dot.
use Rattle.std.proofs.Common.{◌≡◌, ℕ, suc, ◌+◌, ◌-◌, ◌<◌, ◌≤◌, ◌++◌, ◌↔◌, not, Bool, true, false, List, [], ◌∷◌, length, take, drop, refl, ap, sym, subst, ◌∙◌, arith, length-drop, map, All, cond}
use Rattle.std.specs.Str.{bytes_eq}
use Rattle.std.specs.List.{position_or_len}
use Rattle.std.proofs.lemmas.Bool.{cond-true, cond-false}
use Rattle.std.proofs.lemmas.List.{take_all}
use Rattle.std.proofs.lemmas.List.Elements.{All-head, All-tail, All-cons}
use Rattle.std.proofs.lemmas.List.Splits.{slice_split_first, slice_split_none, length-slice_split}
use Rattle.std.proofs.lemmas.List.Sums.{fails_before_first}
use Rattle.std.proofs.lemmas.Slice.Eq.{bytes_eq-Decides}
use Rattle.wave_text.specs.Names.{is_dot, parts, but_last, last_of, path_of, base_of}
use Rattle.wave_text.specs.Parts.{IsBase, IsInside, AreInside}
use Rattle.wave_text.specs.Text.{moves, out_and_in}

pub no-dot : (name : List ℕ) (len : ℕ) → len ≡ position_or_len is_dot name → len ≡ length name → IsBase name
no-dot name len at all = slice_split_none is_dot name (λ k d within. fails_before_first is_dot name k d (omega (arith, at, all, within)))

at-dot : (name : List ℕ) (len : ℕ) → len ≡ position_or_len is_dot name → len < length name
    → IsInside name (take len name) (drop (len + 1) name)
at-dot name len at within = record {
  parts_are = slice_split_first is_dot name 0 (omega (arith, at, within))
      ∙ ap (λ k. take k name ∷ parts (drop (k + 1) name)) (sym at);
  shorter = let l = length-drop (len + 1) name in omega (arith, l, within);
}

-- as a range of the code has the rest
pub at-dot_range : (name : List ℕ) (len : ℕ) → len ≡ position_or_len is_dot name → len ≤ length name → (len ≡ length name → ⊥)
    → IsInside name (take len name) (take (length name - (len + 1)) (drop (len + 1) name))
at-dot_range name len at most some =
    let within : len < length name = omega (arith, most, some) in
    let l = length-drop (len + 1) name in
    subst (IsInside name (take len name)) (sym (take_all (length name - (len + 1)) (drop (len + 1) name) (omega (arith, l)))) (at-dot name len at within)

some-parts : (name : List ℕ) → 0 < length (parts name)
some-parts name = let n = length-slice_split is_dot name in omega (arith, n)

front-more : (p : List ℕ) (ps : List (List ℕ)) → 0 < length ps → but_last (p ∷ ps) ≡ p ∷ but_last ps
front-more p [] l = absurd (omega (arith, l))
front-more p (q ∷ ps) l = refl

last-more : (p : List ℕ) (ps : List (List ℕ)) → 0 < length ps → last_of (p ∷ ps) ≡ last_of ps
last-more p [] l = absurd (omega (arith, l))
last-more p (q ∷ ps) l = refl

pub base-path : (name : List ℕ) → IsBase name → path_of name ≡ []
base-path name is = ap but_last is

pub base-base : (name : List ℕ) → IsBase name → base_of name ≡ name
base-base name is = ap last_of is

pub inside-path : (name first inside : List ℕ) → IsInside name first inside → path_of name ≡ first ∷ path_of inside
inside-path name first inside is = ap but_last is.parts_are ∙ front-more first (parts inside) (some-parts inside)

pub inside-base : (name first inside : List ℕ) → IsInside name first inside → base_of name ≡ base_of inside
inside-base name first inside is = ap last_of is.parts_are ∙ last-more first (parts inside) (some-parts inside)

-- ---- two names
abbrev pub AreApart : List ℕ → List ℕ → Type 0
AreApart from to = moves (path_of from) (path_of to) ≡ out_and_in (path_of from) (path_of to)

apart-at : (p q from to : List (List ℕ)) → p ≡ from → q ≡ to → moves from to ≡ out_and_in from to → moves p q ≡ out_and_in p q
apart-at p q from to e f is = ap (λ x. moves x q) e ∙ ap (moves from) f ∙ is ∙ ap (out_and_in from) (sym f) ∙ ap (λ x. out_and_in x q) (sym e)

pub apart-left : (from to : List ℕ) → IsBase from → AreApart from to
apart-left from to is = apart-at (path_of from) (path_of to) [] (path_of to) (base-path from is) refl refl

no-moves : (x : List ℕ) (from : List (List ℕ)) → moves (x ∷ from) [] ≡ out_and_in (x ∷ from) []
no-moves x from = refl

pub apart-right : (from to first inside : List ℕ) → IsInside from first inside → IsBase to → AreApart from to
apart-right from to first inside is base =
    apart-at (path_of from) (path_of to) (first ∷ path_of inside) [] (inside-path from first inside is) (base-path to base)
    (no-moves first (path_of inside))

pub apart-here : (from to x y from_inside to_inside : List ℕ) → IsInside from x from_inside → IsInside to y to_inside → bytes_eq x y ≡ false
    → AreApart from to
apart-here from to x y from_inside to_inside left entered differ =
    apart-at (path_of from) (path_of to) (x ∷ path_of from_inside) (y ∷ path_of to_inside) (inside-path from x from_inside left)
    (inside-path to y to_inside entered)
    (cond-false (bytes_eq x y) (moves (path_of from_inside) (path_of to_inside))
    (out_and_in (x ∷ path_of from_inside) (y ∷ path_of to_inside)) differ)

pub both-inside : (from to x y from_inside to_inside : List ℕ) → IsInside from x from_inside → IsInside to y to_inside → bytes_eq x y ≡ true
    → AreInside from to from_inside to_inside
both-inside from to x y from_inside to_inside left entered same = record {
  moves_are = ap (λ p. moves p (path_of to)) (inside-path from x from_inside left)
      ∙ ap (moves (x ∷ path_of from_inside)) (inside-path to y to_inside entered)
      ∙ cond-true (bytes_eq x y) (moves (path_of from_inside) (path_of to_inside))
      (out_and_in (x ∷ path_of from_inside) (y ∷ path_of to_inside)) same;
  shorter = left.shorter;
}

pub not-differ : (b : Bool) → false ≡ not b → b ≡ true
not-differ true e = refl
not-differ false e = absurd (cc)

pub differs : (b : Bool) → true ≡ not b → b ≡ false
differs true e = absurd (cc)
differs false e = refl

-- ---- names of identifiers
pub parts-inside : (P : List ℕ → Type 0) (name first inside : List ℕ) → IsInside name first inside → P first → All P (parts name)
    ↔ All P (parts inside)
parts-inside P name first inside is here = (
  λ all. All-tail P first (parts inside) (subst (All P) is.parts_are all),
  λ all. subst (All P) (sym is.parts_are) (All-cons P first (parts inside) here all),
)

pub first-inside : (P : List ℕ → Type 0) (name first inside : List ℕ) → IsInside name first inside → All P (parts name) → P first
first-inside P name first inside is all = All-head P first (parts inside) (subst (All P) is.parts_are all)

pub both-ways : {A B C : Type 0} → (A ↔ B) → (B ↔ C) → (A ↔ C)
both-ways f g = ((λ a. g.0 (f.0 a)), (λ c. f.1 (g.1 c)))
