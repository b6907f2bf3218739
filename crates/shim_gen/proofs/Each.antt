-- Loops that add one piece for each element of a list.
use Rattle.std.proofs.Common.{◌≡◌, ℕ, suc, ◌+◌, ◌<◌, List, [], ◌∷◌, ◌++◌, sym, ap, ◌∙◌, append_assoc, length, drop, get_or, arith, drop-cons}
use Rattle.shim_trees.specs.Pieces.{each}

-- what is added and what is left make the same list as before
pub each_pushed : {X Y : Type 0} (f : ℕ → X → Y) (old new all : List Y) (xs : List X) (i : ℕ) (x : X) (y : Y) → i < length xs
    → f i (get_or xs i x) ≡ y → new ≡ old ++ y ∷ [] → old ++ each f i (drop i xs) ≡ all → new ++ each f (i + 1) (drop (i + 1) xs) ≡ all
each_pushed f old new all xs i x y low is push before =
    let next : i + 1 ≡ suc i = omega arith in
    ap (λ ys. ys ++ each f (i + 1) (drop (i + 1) xs)) push
    ∙ append_assoc old (y ∷ []) (each f (i + 1) (drop (i + 1) xs))
    ∙ ap (λ z. old ++ z ∷ each f (i + 1) (drop (i + 1) xs)) (sym is)
    ∙ ap (λ (k : ℕ). old ++ f i (get_or xs i x) ∷ each f (i + 1) (drop k xs)) next
    ∙ ap (λ ys. old ++ each f i ys) (sym (drop-cons xs i x low))
    ∙ before
