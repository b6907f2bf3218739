-- A list of labels in two halves.
use Rattle.std.proofs.Common.{◌≡◌, ℕ, ◌≤◌, ◌<◌, ◌/◌, Bool, ◌||◌, List, [], ◌∷◌, ◌++◌, map, refl, ap, ◌∙◌, subst, arith}
use Rattle.std.specs.List.{list_any, AllByRecursion}
use Rattle.std.proofs.lemmas.List.Folds.{list_any-append}

map_append : {A B : Type 0} (f : A → B) (xs ys : List A) → map f (xs ++ ys) ≡ map f xs ++ map f ys
map_append f [] ys = refl
map_append f (x ∷ xs) ys = ap (λ l. f x ∷ l) (map_append f xs ys)

front_by : {A : Type 0} (P : A → Type 0) (xs ys : List A) → AllByRecursion P (xs ++ ys) → AllByRecursion P xs
front_by P [] ys h = tt
front_by P (x ∷ xs) ys h = (h.0, front_by P xs ys h.1)

back_by : {A : Type 0} (P : A → Type 0) (xs ys : List A) → AllByRecursion P (xs ++ ys) → AllByRecursion P ys
back_by P [] ys h = h
back_by P (x ∷ xs) ys h = back_by P xs ys h.1

pub all_front : {A B : Type 0} (P : B → Type 0) (f : A → B) (all front back : List A) → all ≡ front ++ back
    → AllByRecursion P (map f all) → AllByRecursion P (map f front)
all_front P f all front back s h =
    front_by P (map f front) (map f back) (subst (AllByRecursion P) (ap (map f) s ∙ map_append f front back) h)

pub all_back : {A B : Type 0} (P : B → Type 0) (f : A → B) (all front back : List A) → all ≡ front ++ back
    → AllByRecursion P (map f all) → AllByRecursion P (map f back)
all_back P f all front back s h =
    back_by P (map f front) (map f back) (subst (AllByRecursion P) (ap (map f) s ∙ map_append f front back) h)

pub any_halves : {A B : Type 0} (p : B → Bool) (f : A → B) (all front back : List A) → all ≡ front ++ back
    → list_any p (map f all) ≡ (list_any p (map f front) || list_any p (map f back))
any_halves p f all front back s = ap (list_any p) (ap (map f) s ∙ map_append f front back) ∙ list_any-append p (map f front) (map f back)

pub half_below : (n : ℕ) → 2 ≤ n → n / 2 < n
half_below n h = grind arith

pub half_more : (n : ℕ) → 2 ≤ n → 1 ≤ n / 2
half_more n h = grind arith
