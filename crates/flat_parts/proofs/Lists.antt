-- Lists and their elements.
use Rattle.std.proofs.Common.{◌≡◌, ℕ, zero, suc, ◌<◌, ◌≤◌, ◌⊎◌, inl, inr, List, [], ◌∷◌, ◌++◌, length, get_or}
use Rattle.std.proofs.Common.{refl, ap, subst, arith, length-append, None, Some, slice_get}
use Rattle.std.specs.List.{Contains, All, AllPairs, flat_map}
use Rattle.std.proofs.lemmas.List.Elements.{Contains-append_left, Contains-append_right, Contains-append_cases, All-contains}
use Rattle.std.proofs.lemmas.List.Kept.{AllPairs-cons}
use Rattle.vlog_elab.proofs.vidi_bits_lemmas.Lists.{head_in, tail_in, none_in, cases_in}

-- ---- elements

pub in_got : {X : Type 0} → (xs : List X) (k : ℕ) (x : X) → slice_get xs k ≡ Some x → Contains xs x
in_got [] k x e = let off : None ≡ Some x = e in absurd (cc)
in_got (y ∷ ys) zero x e = let is : y ≡ x = cc in (0, omega arith, is)
in_got (y ∷ ys) (suc k) x e = tail_in y ys x (in_got ys k x e)

got_again : {X : Type 0} → (xs : List X) (d : X) (k : ℕ) → k < length xs → get_or xs k (get_or xs k d) ≡ get_or xs k d
got_again [] d k l = absurd (omega (arith, l))
got_again (x ∷ xs) d zero l = refl
got_again (x ∷ xs) d (suc k) l = got_again xs d k (omega (arith, l))

-- what each element of a list has
pub each : {X : Type 0} (P : X → Type 0) → (xs : List X) → ((x : X) → Contains xs x → P x) → All P xs
each P xs h k d l = h (get_or xs k d) (k, l, got_again xs d k l)

-- ---- flat_map

pub long_flat : {X A : Type 0} → (f : X → List A) (xs : List X) (x : X) → Contains xs x → length (f x) ≤ length (flat_map f xs)
long_flat f [] x there = absurd (none_in x there)
long_flat f (y ∷ ys) x there =
    elim (cases_in y ys x there) [
      | inl is ↦ let same : length (f y) ≡ length (f x) = ap (λ z. length (f z)) is in
          omega (arith, same, length-append (f y) (flat_map f ys))
      | inr more ↦ let less = long_flat f ys x more in omega (arith, less, length-append (f y) (flat_map f ys))
    ]

-- ---- pairs

pub pairs_first : {X : Type 0} (R : X → X → Type 0) → (x : X) (xs : List X) → AllPairs R (x ∷ xs) → All (R x) xs
pairs_first R x xs h k d l = h 0 (suc k) d (omega arith) (omega (arith, l))

pub pairs_rest : {X : Type 0} (R : X → X → Type 0) → (x : X) (xs : List X) → AllPairs R (x ∷ xs) → AllPairs R xs
pairs_rest R x xs h i j d less within = h (suc i) (suc j) d (omega (arith, less)) (omega (arith, within))

pub no_pairs : {X : Type 0} (R : X → X → Type 0) → AllPairs R []
no_pairs R i j d less within = absurd (omega (arith, less, within))

pub pairs_behind : {X : Type 0} (R : X → X → Type 0) → (xs ys : List X) → AllPairs R (xs ++ ys) → AllPairs R ys
pairs_behind R [] ys h = h
pairs_behind R (x ∷ xs) ys h = pairs_behind R xs ys (pairs_rest R x (xs ++ ys) h)

pub pairs_front : {X : Type 0} (R : X → X → Type 0) → (xs ys : List X) → AllPairs R (xs ++ ys) → AllPairs R xs
pairs_front R [] ys h = no_pairs R
pairs_front R (x ∷ xs) ys h =
    AllPairs-cons R x xs
    (each (R x) xs (λ y there. All-contains (R x) (xs ++ ys) y (pairs_first R x (xs ++ ys) h) (Contains-append_left xs ys y there)))
    (pairs_front R xs ys (pairs_rest R x (xs ++ ys) h))

pub pairs_append : {X : Type 0} (R : X → X → Type 0) → (xs ys : List X) → AllPairs R xs → AllPairs R ys
    → ((x y : X) → Contains xs x → Contains ys y → R x y) → AllPairs R (xs ++ ys)
pairs_append R [] ys left right between = right
pairs_append {X} R (x ∷ xs) ys left right between =
    AllPairs-cons R x (xs ++ ys) (each (R x) (xs ++ ys) (λ y h. one y (Contains-append_cases xs ys y h)))
    (pairs_append R xs ys (pairs_rest R x xs left) right (λ a b in_left in_right. between a b (tail_in x xs a in_left) in_right))
  where
    one : (y : X) → Contains xs y ⊎ Contains ys y → R x y
    one y (inl own) = All-contains (R x) xs y (pairs_first R x xs left) own
    one y (inr other) = between x y (head_in x xs) other

pub pairs_between : {X : Type 0} (R : X → X → Type 0) → (xs ys : List X) (x y : X) → AllPairs R (xs ++ ys) → Contains xs x
    → Contains ys y → R x y
pairs_between R [] ys x y h left right = absurd (none_in x left)
pairs_between R (z ∷ xs) ys x y h left right =
    elim (cases_in z xs x left) [
      | inl is ↦ subst (λ w. R w y) is
          (All-contains (R z) (xs ++ ys) y (pairs_first R z (xs ++ ys) h) (Contains-append_right xs ys y right))
      | inr more ↦ pairs_between R xs ys x y (pairs_rest R z (xs ++ ys) h) more right
    ]

-- ---- nothing found
