-- Lists: which elements pass a test, and which are in a list of lists.
use Rattle.std.proofs.Common.{◌≡◌, ◌&&◌, ◌||◌, Bool, true, false, List, [], ◌∷◌, map}
use Rattle.std.proofs.Common.{refl, ap, ◌∙◌}
use Rattle.std.specs.List.{Contains, AllZip, list_any, flat_map}
use Rattle.std.proofs.lemmas.List.Folds.{list_any-append, list_any_at}
use Rattle.flat_parts.proofs.vidi_bits_lemmas.Lists.{head_in, tail_in}
use Rattle.flat_parts.proofs.vidi_bits_lemmas.Bools.{same_test}

-- ---- tests

-- ---- elements

-- ---- tests of elements

-- an element that passes
abbrev pub Passing : {X : Type 0} → (X → Bool) → List X → Type 0
Passing {X} p xs = (x : X) × Contains xs x × (p x ≡ true)

first_passes : {X : Type 0} (p : X → Bool) (x : X) (xs : List X) (b : Bool) → p x ≡ b → (list_any p xs ≡ true → Passing p xs)
    → (b || list_any p xs) ≡ true → Passing p (x ∷ xs)
first_passes p x xs true e more h = (x, head_in x xs, e)
first_passes p x xs false e more h = let r = more h in (r.0, tail_in x xs r.0 r.1, r.2)

pub any_found : {X : Type 0} (p : X → Bool) (xs : List X) → list_any p xs ≡ true → Passing p xs
any_found p [] h = absurd (cc)
any_found p (x ∷ xs) h = first_passes p x xs (p x) refl (λ e. any_found p xs e) h

pub found_any : {X : Type 0} (p : X → Bool) (xs : List X) (x : X) → Contains xs x → p x ≡ true → list_any p xs ≡ true
found_any p xs x (k, l, e) h = list_any_at p xs k x l (ap p e ∙ h)

-- where no other element can pass, the test of one is that of all
pub any_one : {X : Type 0} (p : X → Bool) (x : X) (xs : List X) → Contains xs x → ((y : X) → Contains xs y → p y ≡ true → x ≡ y)
    → list_any p xs ≡ p x
any_one p x xs c only =
    same_test (list_any p xs) (p x)
    (λ h. let r = any_found p xs h in ap p (only r.0 r.1 r.2) ∙ r.2)
    (λ h. found_any p xs x c h)

pub any_same : {X : Type 0} (p q : X → Bool) → ((x : X) → p x ≡ q x) → (xs : List X) → list_any p xs ≡ list_any q xs
any_same p q same [] = refl
any_same p q same (x ∷ xs) = ap (λ b. b || list_any p xs) (same x) ∙ ap (λ b. q x || b) (any_same p q same xs)

none : {X : Type 0} (xs : List X) → list_any (λ (x : X). false) xs ≡ false
none [] = refl
none (x ∷ xs) = none xs

pub any_and : {X : Type 0} (b : Bool) (p : X → Bool) (xs : List X) → list_any (λ (x : X). b && p x) xs ≡ (b && list_any p xs)
any_and true p xs = refl
any_and false p xs = none xs

-- elements of two lists that pass alike
pub any_zip : {A B : Type 0} (R : A → B → Type 0) (p : A → Bool) (q : B → Bool) → ((a : A) (b : B) → R a b → q b ≡ p a)
    → (xs : List A) (ys : List B) → AllZip R xs ys → list_any q ys ≡ list_any p xs
any_zip R p q same [] [] h = refl
any_zip R p q same [] (y ∷ ys) h = absurd h
any_zip R p q same (x ∷ xs) [] h = absurd h
any_zip R p q same (x ∷ xs) (y ∷ ys) h =
    ap (λ b. b || list_any q ys) (same x y h.0) ∙ ap (λ b. p x || b) (any_zip R p q same xs ys h.1)

-- ---- lists of lists

pub any_flat : {X A : Type 0} (p : A → Bool) (f : X → List A) (xs : List X)
    → list_any p (flat_map f xs) ≡ list_any (λ (x : X). list_any p (f x)) xs
any_flat p f [] = refl
any_flat p f (x ∷ xs) = list_any-append p (f x) (flat_map f xs) ∙ ap (λ b. list_any p (f x) || b) (any_flat p f xs)

pub flat_none : {X A : Type 0} (p : A → Bool) (f : X → List A) → ((x : X) → list_any p (f x) ≡ false) → (xs : List X)
    → list_any p (flat_map f xs) ≡ false
flat_none p f h [] = refl
flat_none p f h (x ∷ xs) =
    list_any-append p (f x) (flat_map f xs) ∙ ap (λ b. b || list_any p (flat_map f xs)) (h x) ∙ flat_none p f h xs

pub map_none : {X A : Type 0} (p : A → Bool) (f : X → A) → ((x : X) → p (f x) ≡ false) → (xs : List X) → list_any p (map f xs) ≡ false
map_none p f h [] = refl
map_none p f h (x ∷ xs) = ap (λ b. b || list_any p (map f xs)) (h x) ∙ map_none p f h xs
