-- Findings in front of others, and findings that are told in another form.
use Rattle.std.proofs.Common.{◌≡◌, Bool, true, false, [], refl, ◌&&◌, is_none, List, ◌∷◌, ◌++◌, Option, None, Some, IfSome, map, option_map, ap}
use Rattle.vidi_bits.specs.Findings.{told_if, first, IsFirst}

pub told_none : {A : Type 0} → (b : Bool) (x : A) → told_if b x ≡ [] → b ≡ false
told_none true x h = (cc)
told_none false x h = refl

pub both_nil : {A : Type 0} → (xs ys : List A) → xs ≡ [] → ys ≡ [] → (is_none (first xs) && is_none (first ys)) ≡ true
both_nil xs ys h k = rw (h, k) refl

pub first_more : {A : Type 0} → (xs ys : List A) (x : A) → first xs ≡ Some x → first (xs ++ ys) ≡ Some x
first_more [] ys x h = (cc)
first_more (z ∷ zs) ys x h = h

pub first_map : {A B : Type 0} → (f : A → B) (xs : List A) (x : A) → first xs ≡ Some x → first (map f xs) ≡ Some (f x)
first_map f [] x h = (cc)
first_map f (y ∷ ys) x h = ap (option_map f) h

pub none_map : {A B : Type 0} → (f : A → B) (xs : List A) → xs ≡ [] → map f xs ≡ []
none_map f xs h = ap (map f) h

told_more : {F : Type 0} → (o : Option F) (xs ys : List F) → IfSome o (λ f. first xs ≡ Some f) → IfSome o (λ f. first (xs ++ ys) ≡ Some f)
told_more None xs ys h = tt
told_more (Some f) xs ys h = first_more xs ys f h

pub is_first_more : {E F : Type 0} → (told : E → Option F) (error : E) (xs ys : List F) → IsFirst told xs error → IsFirst told (xs ++ ys) error
is_first_more told error xs ys h = told_more (told error) xs ys h
