-- Equivalences, and what holds of each element of a list.
use Rattle.std.proofs.Common.{◌↔◌, List, [], ◌∷◌, ◌++◌}
use Rattle.std.specs.List.{AllByRecursion, AllZip}

pub same_both : {A B C D : Type 0} → A ↔ B → C ↔ D → (A × C) ↔ (B × D)
same_both f g = ((λ h. (f.0 h.0, g.0 h.1)), (λ h. (f.1 h.0, g.1 h.1)))

pub nothing : {A : Type 0} → A ↔ A
nothing = ((λ h. h), (λ h. h))

pub then_so : {A B C : Type 0} → A ↔ B → B ↔ C → A ↔ C
then_so f g = ((λ h. g.0 (f.0 h)), (λ h. f.1 (g.1 h)))

pub back : {A B : Type 0} → A ↔ B → B ↔ A
back f = (f.1, f.0)

pub split : {X : Type 0} (P : X → Type 0) (xs ys : List X)
    → AllByRecursion P (xs ++ ys) ↔ (AllByRecursion P xs × AllByRecursion P ys)
split P [] ys = ((λ h. (tt, h)), (λ h. h.1))
split P (x ∷ xs) ys =
    let rest = split P xs ys in
    ((λ h. let k = rest.0 h.1 in ((h.0, k.0), k.1)), (λ h. (h.0.0, rest.1 (h.0.1, h.1))))

pub each_weaker : {X : Type 0} (P Q : X → Type 0) → ((x : X) → P x → Q x) → (xs : List X) → AllByRecursion P xs → AllByRecursion Q xs
each_weaker P Q h [] a = tt
each_weaker P Q h (x ∷ xs) a = (h x a.0, each_weaker P Q h xs a.1)

pub each_append : {A : Type 0} (P : A → Type 0) (xs ys : List A) → AllByRecursion P xs → AllByRecursion P ys → AllByRecursion P (xs ++ ys)
each_append P [] ys h k = k
each_append P (x ∷ xs) ys h k = (h.0, each_append P xs ys h.1 k)

pub zip-on : {A B : Type 0} (R S : A → B → Type 0) → ((u : A) (x : B) → R u x → S u x) → (us : List A) (xs : List B) → AllZip R us xs
    → AllZip S us xs
zip-on R S on [] [] a = tt
zip-on R S on [] (x ∷ xs) a = absurd a
zip-on R S on (u ∷ us) [] a = absurd a
zip-on R S on (u ∷ us) (x ∷ xs) a = (on u x a.0, zip-on R S on us xs a.1)
