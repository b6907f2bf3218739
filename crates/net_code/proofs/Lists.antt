-- One more item of a list is moved, in place.
use Rattle.std.proofs.Common.{◌≡◌, ℕ, ◌+◌, ◌<◌, List, ◌++◌, All, length, get_or, set, map, take, drop, ap, sym, subst, ◌∙◌, arith}
use Rattle.std.specs.List.{AllByRecursion}
use Rattle.std.proofs.lemmas.List.{drop_more, drop-set-lt, drop-drop}
use Rattle.std.proofs.lemmas.List.Edits.{map_over_more}
use Rattle.std.proofs.lemmas.List.Elements.{All-drop}

module _ {X : Type 0} (f : X → X) (xs ys zs : List X) (i : ℕ) (x y : X) where
  pub one_more : i < length zs → zs ≡ xs → ys ≡ map f (take i xs) ++ drop i xs → x ≡ get_or ys i x → y ≡ f (get_or ys i x)
      → set ys i y ≡ map f (take (i + 1) xs) ++ drop (i + 1) xs
  one_more l z same is made =
      let here : i < length xs = subst (λ us. i < length us) z l in
      subst (λ u. set ys i u ≡ map f (take (i + 1) xs) ++ drop (i + 1) xs) (ap f is ∙ sym made) (map_over_more f xs ys i x here same is)

  pub others : (P : X → Type 0) → i < length zs → length ys ≡ length zs → AllByRecursion P (drop i ys)
      → AllByRecursion P (drop (i + 1) (set ys i y))
  others P l long h =
      let here : i < length ys = omega arith in
      subst (AllByRecursion P) (sym (drop-set-lt (i + 1) ys i y (omega arith))) (subst (AllByRecursion P) (drop_more ys i x here) h).1

  pub others_all : (P : X → Type 0) → All P (drop i ys) → All P (drop (i + 1) (set ys i y))
  others_all P h = subst (All P) (drop-drop 1 i ys ∙ sym (drop-set-lt (i + 1) ys i y (omega arith))) (All-drop P 1 (drop i ys) h)
