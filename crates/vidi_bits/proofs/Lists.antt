-- Elements of lists, and lists that are empty.
use Rattle.std.proofs.Common.{◌≡◌, ℕ, zero, suc, ◌⊎◌, inl, inr, true, false, Option, Some, None, is_some, List, [], ◌∷◌, ◌++◌, map}
use Rattle.std.proofs.Common.{length, take, refl, sym, subst, arith}
use Rattle.std.proofs.Math.Seq.{take-length}
use Rattle.std.specs.List.{Contains, flat_map}
use Rattle.std.proofs.lemmas.List.Elements.{Contains-append_left, Contains-append_right, Contains-append_cases}
use Rattle.std.proofs.lemmas.Slice.Eq.{bytes_eq-Decides}
use Rattle.std.specs.Str.{bytes_eq}

pub head_in : {X : Type 0} (x : X) (xs : List X) → Contains (x ∷ xs) x
head_in x xs = (0, omega arith, refl)

pub tail_in : {X : Type 0} (x : X) (xs : List X) (y : X) → Contains xs y → Contains (x ∷ xs) y
tail_in x xs y (k, l, e) = (suc k, omega arith, e)

pub none_in : {X : Type 0} (y : X) → Contains [] y → ⊥
none_in y (k, l, e) = absurd (omega arith)

pub cases_in : {X : Type 0} (x : X) (xs : List X) (y : X) → Contains (x ∷ xs) y → (x ≡ y) ⊎ Contains xs y
cases_in x xs y (zero, l, e) = inl e
cases_in x xs y (suc k, l, e) = inr (k, omega arith, e)

pub in_flat : {X A : Type 0} → (f : X → List A) (xs : List X) (x : X) (a : A) → Contains xs x → Contains (f x) a
    → Contains (flat_map f xs) a
in_flat f [] x a there own = absurd (none_in x there)
in_flat f (y ∷ ys) x a there own =
    elim (cases_in y ys x there) [
      | inl is ↦ Contains-append_left (f y) (flat_map f ys) a (subst (λ z. Contains (f z) a) (sym is) own)
      | inr more ↦ Contains-append_right (f y) (flat_map f ys) a (in_flat f ys x a more own)
    ]

pub from_flat : {X A : Type 0} → (f : X → List A) (xs : List X) (a : A) → Contains (flat_map f xs) a
    → (x : X) × Contains xs x × Contains (f x) a
from_flat f [] a h = absurd (none_in a h)
from_flat {X} f (y ∷ ys) a h =
    elim (Contains-append_cases (f y) (flat_map f ys) a h) [
      | inl own ↦ (y, head_in y ys, own)
      | inr more ↦ let r = from_flat f ys a more in (r.0, tail_in y ys r.0 r.1, r.2)
    ]

pub nil_left : {A : Type 0} → (xs ys : List A) → xs ++ ys ≡ [] → xs ≡ []
nil_left [] ys h = refl
nil_left (x ∷ xs) ys h = (cc)

pub nil_right : {A : Type 0} → (xs ys : List A) → xs ++ ys ≡ [] → ys ≡ []
nil_right [] ys h = h
nil_right (x ∷ xs) ys h = (cc)

pub none_mapped : {A B : Type 0} → (f : A → B) (xs : List A) → map f xs ≡ [] → xs ≡ []
none_mapped f [] h = refl
none_mapped f (x ∷ xs) h = absurd (cc)

pub no_some : {A : Type 0} (o : Option A) → is_some o ≡ false → o ≡ None
no_some None e = refl
no_some (Some a) e = let off : true ≡ false = e in absurd (cc)

pub some_same : {V : Type 0} → (a b : V) → Some a ≡ Some b → a ≡ b
some_same a b h = (cc)

pub bytes_eq-self : (xs : List ℕ) → bytes_eq xs xs ≡ true
bytes_eq-self xs = (bytes_eq-Decides xs xs).1 refl

pub take_whole : {A : Type 0} → (xs : List A) → take (length xs) xs ≡ xs
take_whole xs = take-length xs
