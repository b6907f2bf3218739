-- Lists that are joined of parts.
use Rattle.std.proofs.Common.{◌≡◌, ℕ, ◌+◌, List, [], ◌∷◌, ◌++◌, map, length, take, drop, get_or, replicate, refl, ap, sym, ◌∙◌}
use Rattle.std.specs.List.{flat_map, sum_by, AllByRecursion, Contains}
use Rattle.std.proofs.lemmas.List.{map-append, length-append, take_at, drop_at}
use Rattle.std.proofs.lemmas.List.Concat.{flat_map-append}
use Rattle.std.proofs.lemmas.List.Elements.{All-contains, All-from_recursion, recursion_from_All, All-replicate, Contains-get_or}
use Rattle.std.proofs.lemmas.List.Sums.{sum_by-cons}

-- ---- what holds of each element
pub of_each : {X : Type 0} (P : X → Type 0) (xs : List X) → AllByRecursion P xs → (x : X) → Contains xs x → P x
of_each P xs h x c = All-contains P xs x (All-from_recursion P xs h) c

pub each_of : {X : Type 0} (P : X → Type 0) (xs : List X) → ((x : X) → Contains xs x → P x) → AllByRecursion P xs
each_of P xs h = recursion_from_All P xs (λ k d l. h (get_or xs k d) (Contains-get_or xs k d l))

-- ---- parts
pub parts_joined : {X A : Type 0} (f g : X → List A) (xs : List X) → AllByRecursion (λ x. f x ≡ g x) xs → flat_map f xs ≡ flat_map g xs
parts_joined f g [] h = refl
parts_joined f g (x ∷ xs) h = ap (λ ys. ys ++ flat_map f xs) h.0 ∙ ap (λ ys. g x ++ ys) (parts_joined f g xs h.1)

first_same : {A : Type 0} (xs rest ys more : List A) → length xs ≡ length ys → xs ++ rest ≡ ys ++ more → xs ≡ ys
first_same xs rest ys more l h =
    sym (take_at xs rest (length xs) refl) ∙ ap (take (length xs)) h ∙ take_at ys more (length xs) (sym l)

rest_same : {A : Type 0} (xs rest ys more : List A) → length xs ≡ length ys → xs ++ rest ≡ ys ++ more → rest ≡ more
rest_same xs rest ys more l h =
    sym (drop_at xs rest (length xs) refl) ∙ ap (drop (length xs)) h ∙ drop_at ys more (length xs) (sym l)

pub parts_same : {X A : Type 0} (f g : X → List A) → ((x : X) → length (f x) ≡ length (g x)) → (xs : List X)
    → flat_map f xs ≡ flat_map g xs → AllByRecursion (λ x. f x ≡ g x) xs
parts_same f g long [] h = tt
parts_same f g long (x ∷ xs) h = (
  first_same (f x) (flat_map f xs) (g x) (flat_map g xs) (long x) h,
  parts_same f g long xs (rest_same (f x) (flat_map f xs) (g x) (flat_map g xs) (long x) h),
)

pub parts_long : {X A : Type 0} (f : X → List A) (g : X → ℕ) → ((x : X) → length (f x) ≡ g x) → (xs : List X)
    → length (flat_map f xs) ≡ sum_by g xs
parts_long f g h [] = refl
parts_long f g h (x ∷ xs) =
    length-append (f x) (flat_map f xs) ∙ ap (λ n. n + length (flat_map f xs)) (h x) ∙ ap (λ n. g x + n) (parts_long f g h xs)
    ∙ sym (sum_by-cons g x xs)

pub parts_of_parts : {X Y A : Type 0} (f : Y → List A) (g : X → List Y) (xs : List X)
    → flat_map f (flat_map g xs) ≡ flat_map (λ x. flat_map f (g x)) xs
parts_of_parts f g [] = refl
parts_of_parts f g (x ∷ xs) =
    flat_map-append f (g x) (flat_map g xs) ∙ ap (λ ys. flat_map f (g x) ++ ys) (parts_of_parts f g xs)

pub map_parts : {X A B : Type 0} (h : A → B) (f : X → List A) (xs : List X)
    → flat_map (λ x. map h (f x)) xs ≡ map h (flat_map f xs)
map_parts h f [] = refl
map_parts h f (x ∷ xs) = ap (λ ys. map h (f x) ++ ys) (map_parts h f xs) ∙ sym (map-append h (f x) (flat_map f xs))

-- ---- zeros
abbrev pub AreZero : List ℕ → Type 0
AreZero ns = AllByRecursion (λ n. n ≡ 0) ns

pub zeros_are : (ns : List ℕ) → AreZero ns → ns ≡ replicate (length ns) 0
zeros_are [] h = refl
zeros_are (n ∷ ns) h = ap (λ k. k ∷ ns) h.0 ∙ ap (λ ks. 0 ∷ ks) (zeros_are ns h.1)

pub are_zero : (n : ℕ) → AreZero (replicate n 0)
are_zero n = recursion_from_All (λ k. k ≡ 0) (replicate n 0) (All-replicate (λ k. k ≡ 0) n 0 refl)

both_zero : (ns ks : List ℕ) → AreZero ns → AreZero ks → AreZero (ns ++ ks)
both_zero [] ks h g = g
both_zero (n ∷ ns) ks h g = (h.0, both_zero ns ks h.1 g)

zero_parts : (ns ks : List ℕ) → AreZero (ns ++ ks) → AreZero ns × AreZero ks
zero_parts [] ks h = (tt, h)
zero_parts (n ∷ ns) ks h = let rest = zero_parts ns ks h.1 in ((h.0, rest.0), rest.1)

pub parts_zero : {X : Type 0} (f : X → List ℕ) (xs : List X) → AllByRecursion (λ x. AreZero (f x)) xs → AreZero (flat_map f xs)
parts_zero f [] h = tt
parts_zero f (x ∷ xs) h = both_zero (f x) (flat_map f xs) h.0 (parts_zero f xs h.1)

pub zero_in_parts : {X : Type 0} (f : X → List ℕ) (xs : List X) → AreZero (flat_map f xs) → AllByRecursion (λ x. AreZero (f x)) xs
zero_in_parts f [] h = tt
zero_in_parts f (x ∷ xs) h = let both = zero_parts (f x) (flat_map f xs) h in (both.0, zero_in_parts f xs both.1)
