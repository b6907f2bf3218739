-- Lists, and what holds of each of their elements.
use Rattle.std.proofs.Common.{◌≡◌, ℕ, zero, suc, ◌<◌, ◌^◌, ◌↔◌, List, [], ◌∷◌, ◌++◌, map, get_or, refl, ap, sym, subst, ◌∙◌, arith}
use Rattle.std.specs.List.{AllByRecursion, All, Contains, flat_map}
use Rattle.std.proofs.lemmas.List.{map-append, append-nil}
use Rattle.std.proofs.lemmas.List.Elements.{All-from_recursion, recursion_from_All, All-weaker, All-contains, All-contains_itself}
use Rattle.vlog_elab.proofs.vidi_bits_lemmas.Each.{same_both, nothing, then_so, split}

-- ---- equivalences

-- ---- each element

pub each_flat : {X Y : Type 0} (P : Y → Type 0) (f : X → List Y) (xs : List X)
    → AllByRecursion P (flat_map f xs) ↔ AllByRecursion (λ x. AllByRecursion P (f x)) xs
each_flat P f [] = nothing
each_flat P f (x ∷ xs) = then_so (split P (f x) (flat_map f xs)) (same_both nothing (each_flat P f xs))

pub each_map : {X Y : Type 0} (P : Y → Type 0) (f : X → Y) (xs : List X) → AllByRecursion P (map f xs) ↔ AllByRecursion (λ x. P (f x)) xs
each_map P f [] = nothing
each_map P f (x ∷ xs) = same_both nothing (each_map P f xs)

pub all_each : {X : Type 0} (P : X → Type 0) (xs : List X) → All P xs ↔ AllByRecursion P xs
all_each P xs = ((λ h. recursion_from_All P xs h), (λ h. All-from_recursion P xs h))

pub members : {X : Type 0} (P : X → Type 0) (xs : List X) → AllByRecursion P xs ↔ ((x : X) → Contains xs x → P x)
members P xs = (
  (λ h x c. All-contains P xs x (All-from_recursion P xs h) c),
  (λ h. recursion_from_All P xs (All-weaker (Contains xs) P h xs (All-contains_itself xs))),
)

pub each_alike : {X : Type 0} (P Q : X → Type 0) (xs : List X) → ((x : X) → Contains xs x → P x ↔ Q x)
    → AllByRecursion P xs ↔ AllByRecursion Q xs
each_alike P Q xs h = (
  (λ a. (members Q xs).1 (λ x c. (h x c).0 ((members P xs).0 a x c))),
  (λ a. (members P xs).1 (λ x c. (h x c).1 ((members Q xs).0 a x c))),
)

pub at_each : {X : Type 0} (P : X → Type 0) (xs : List X) (m : ℕ) (d : X) → P d → AllByRecursion P xs → P (get_or xs m d)
at_each P [] m d h a = h
at_each P (x ∷ xs) zero d h a = a.0
at_each P (x ∷ xs) (suc m) d h a = at_each P xs m d h a.1

pub past_nil : {X : Type 0} (P : X → Type 0) (xs : List X) → AllByRecursion P (xs ++ []) ↔ AllByRecursion P xs
past_nil P xs = ((λ h. subst (AllByRecursion P) (append-nil xs) h), (λ h. subst (AllByRecursion P) (sym (append-nil xs)) h))

below_first : {X : Type 0} (f g : X → ℕ) (x : X) (xs : List X) → f x < 2 ^ g x
    → ((m : ℕ) → get_or (map f xs) m 0 < 2 ^ get_or (map g xs) m 0)
    → (m : ℕ) → get_or (map f (x ∷ xs)) m 0 < 2 ^ get_or (map g (x ∷ xs)) m 0
below_first f g x xs h k zero = h
below_first f g x xs h k (suc m) = k m

-- each number is below 2 to the power of its width
pub below_powers : {X : Type 0} (f g : X → ℕ) (xs : List X)
    → ((m : ℕ) → get_or (map f xs) m 0 < 2 ^ get_or (map g xs) m 0) ↔ AllByRecursion (λ x. f x < 2 ^ g x) xs
below_powers f g [] = ((λ h. tt), (λ h m. omega arith))
below_powers f g (x ∷ xs) =
    let rest = below_powers f g xs in
    ((λ h. (h zero, rest.0 (λ m. h (suc m)))), (λ h m. below_first f g x xs h.0 (rest.1 h.1) m))

-- ---- lists of lists
pub map_flat : {X Y Z : Type 0} (h : Y → Z) (f : X → List Y) (xs : List X) → map h (flat_map f xs) ≡ flat_map (λ x. map h (f x)) xs
map_flat h f [] = refl
map_flat h f (x ∷ xs) = map-append h (f x) (flat_map f xs) ∙ ap (λ ys. map h (f x) ++ ys) (map_flat h f xs)

pub map_map : {X Y Z : Type 0} (h : Y → Z) (f : X → Y) (xs : List X) → map h (map f xs) ≡ map (λ x. h (f x)) xs
map_map h f [] = refl
map_map h f (x ∷ xs) = ap (λ ys. h (f x) ∷ ys) (map_map h f xs)
