-- Elements of lists that are joined or cut.
use Rattle.std.proofs.Common.{◌≡◌, ℕ, zero, suc, ◌+◌, ◌<◌, List, [], ◌∷◌, ◌++◌, map, length, take, drop, refl, sym, ap, ◌∙◌, arith}
use Rattle.std.proofs.Common.{append_assoc, Option, None, Some, slice_get, option_map}
use Rattle.std.proofs.lemmas.List.{take_more, drop_more, map-append}
use Rattle.std.proofs.lemmas.Option.{slice_get_within, get_or_from_slice_get}

pub slice_get_left : {X : Type 0} (xs ys : List X) (k : ℕ) → k < length xs → slice_get (xs ++ ys) k ≡ slice_get xs k
slice_get_left [] ys k l = absurd (omega (arith, l))
slice_get_left (x ∷ xs) ys zero l = refl
slice_get_left (x ∷ xs) ys (suc k) l = slice_get_left xs ys k (omega (arith, l))

pub slice_get_right : {X : Type 0} (xs ys : List X) (m k : ℕ) → m ≡ length xs + k → slice_get (xs ++ ys) m ≡ slice_get ys k
slice_get_right [] ys m k e = let same : m ≡ k = omega (arith, e) in ap (λ j. slice_get ys j) same
slice_get_right (x ∷ xs) ys zero k e = absurd (omega (arith, e))
slice_get_right (x ∷ xs) ys (suc m) k e = slice_get_right xs ys m k (omega (arith, e))

-- the element that is there
pub one_more : {X : Type 0} (xs : List X) (k : ℕ) (x : X) → slice_get xs k ≡ Some x → take (k + 1) xs ≡ take k xs ++ x ∷ []
one_more xs k x e =
    take_more xs k x (slice_get_within xs k x e) ∙ ap (λ y. take k xs ++ y ∷ []) (get_or_from_slice_get xs k x x e)

pub one_less : {X : Type 0} (xs : List X) (k : ℕ) (x : X) → slice_get xs k ≡ Some x → drop k xs ≡ x ∷ drop (k + 1) xs
one_less xs k x e =
    drop_more xs k x (slice_get_within xs k x e) ∙ ap (λ y. y ∷ drop (k + 1) xs) (get_or_from_slice_get xs k x x e)

-- what f gives of an element that is there
pub given : {X Y : Type 0} (f : X → Y) (o : Option X) (y : Y) → option_map f o ≡ Some y → (x : X) × (o ≡ Some x) × (f x ≡ y)
given f None y e = absurd (cc)
given f (Some x) y e = (x, refl, (cc))

pub next_of : {X Y : Type 0} (f : X → Y) (xs : List X) (k : ℕ) (first now : List Y) (y : Y) → now ≡ first ++ map f (take k xs)
    → option_map f (slice_get xs k) ≡ Some y → now ++ y ∷ [] ≡ first ++ map f (take (k + 1) xs)
next_of f xs k first now y h e =
    let (x, there, same) = given f (slice_get xs k) y e in
    ap (λ l. l ++ y ∷ []) h
    ∙ (append_assoc first (map f (take k xs)) (y ∷ [])
    ∙ ap (λ l. first ++ l)
    (ap (λ z. map f (take k xs) ++ z ∷ []) (sym same)
    ∙ (sym (map-append f (take k xs) (x ∷ [])) ∙ ap (λ l. map f l) (sym (one_more xs k x there)))))
