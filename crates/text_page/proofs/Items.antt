-- Texts of items, printed item by item.
use Rattle.std.proofs.Common.{◌≡◌, ℕ, ◌+◌, ◌<◌, List, [], ◌∷◌, ◌++◌, length, get_or, take, sym, ap, ◌∙◌, arith}
use Rattle.std.proofs.lemmas.List.{take_more, append-nil, length-take-le}
use Rattle.std.proofs.lemmas.List.Concat.{flat_map-append}
use Rattle.std.specs.List.{flat_map, enumerate_from}

pub enumerate-push : {X : Type 0} (n i : ℕ) (xs : List X) (x : X) → i ≡ n + length xs → enumerate_from n (xs ++ x ∷ []) ≡ enumerate_from n xs
    ++ (i, x) ∷ []
enumerate-push n i [] x e = let same : n ≡ i = omega (arith, e) in ap (λ k. (k, x) ∷ []) same
enumerate-push n i (y ∷ ys) x e = ap (λ zs. (n, y) ∷ zs) (enumerate-push (n + 1) i ys x (omega (arith, e)))

-- one more item is printed
pub more_on : {X : Type 0} (F : ℕ × X → List ℕ) (xs : List X) (i : ℕ) (x : X) → i < length xs → x ≡ get_or xs i x
    → flat_map F (enumerate_from 0 (take i xs)) ++ F (i, x) ≡ flat_map F (enumerate_from 0 (take (i + 1) xs))
more_on F xs i x l e =
    let here : take (i + 1) xs ≡ take i xs ++ x ∷ [] = take_more xs i x l ∙ ap (λ y. take i xs ++ y ∷ []) (sym e) in
    let long : length (take i xs) ≡ i = length-take-le i xs (omega arith) in
    ap (λ ys. flat_map F (enumerate_from 0 (take i xs)) ++ ys) (sym (append-nil (F (i, x))))
    ∙ sym (flat_map-append F (enumerate_from 0 (take i xs)) ((i, x) ∷ []))
    ∙ ap (flat_map F) (sym (enumerate-push 0 i (take i xs) x (omega (arith, long))))
    ∙ ap (λ ys. flat_map F (enumerate_from 0 ys)) (sym here)
