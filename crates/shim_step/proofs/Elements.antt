-- Elements of lists, and lists of different names.
use Rattle.std.proofs.Common.{◌≡◌, ◌≢◌, ℕ, zero, suc, ◌+◌, ◌<◌, Bool, true, false, List, [], ◌∷◌, ◌++◌, map, length}
use Rattle.std.proofs.Common.{None, Some, refl, sym, ap, ◌∙◌, subst, arith, inl, inr, ◌⊎◌, slice_get, cond}
use Rattle.std.specs.Prelude.{slice_index_or}
use Rattle.std.specs.List.{AllByRecursion, AllPairs, Contains, flat_map, position_or_len}
use Rattle.std.specs.Str.{bytes_eq}
use Rattle.std.proofs.lemmas.Slice.Eq.{bytes_eq-Decides}
use Rattle.std.proofs.lemmas.List.Elements.{recursion_from_All}
use Rattle.std.proofs.lemmas.Bool.{lt-ltb}
use Rattle.flat_parts.proofs.vidi_bits_lemmas.Lists.{bytes_eq-self}
use Rattle.flat_parts.specs.vlog_size.Table.{Named, value_of, place_of}
use Rattle.flat_parts.specs.vlog_names.Different.{Differ}

-- an element of a list
abbrev pub Has : {X : Type 0} → List X → X → Type 0
Has [] x = ⊥
Has (y ∷ ys) x = (y ≡ x) ⊎ Has ys x

module _ {X : Type 0} where
  pub has_left : (xs ys : List X) (x : X) → Has xs x → Has (xs ++ ys) x
  has_left [] ys x h = absurd h
  has_left (z ∷ xs) ys x (inl e) = inl e
  has_left (z ∷ xs) ys x (inr h) = inr (has_left xs ys x h)

  pub has_right : (xs ys : List X) (x : X) → Has ys x → Has (xs ++ ys) x
  has_right [] ys x h = h
  has_right (z ∷ xs) ys x h = inr (has_right xs ys x h)

  pub in_slice : (xs : List X) (i : ℕ) (x : X) → slice_get xs i ≡ Some x → Has xs x
  in_slice [] i x e = absurd (cc)
  in_slice (y ∷ xs) zero x e = inl (cc)
  in_slice (y ∷ xs) (suc i) x e = inr (in_slice xs i x e)

  pub has_contains : (xs : List X) (x : X) → Has xs x → Contains xs x
  has_contains [] x h = absurd h
  has_contains (y ∷ xs) x (inl e) = (0, omega arith, e)
  has_contains (y ∷ xs) x (inr h) =
      let c = has_contains xs x h in
      let less = c.1 in
      (suc c.0, omega (arith, less), c.2)

  contains_at : (xs : List X) (x : X) (k : ℕ) → k < length xs → slice_index_or xs k x ≡ x → Has xs x
  contains_at [] x k less e = absurd (omega (arith, less))
  contains_at (y ∷ xs) x zero less e = inl e
  contains_at (y ∷ xs) x (suc k) less e = inr (contains_at xs x k (omega (arith, less)) e)

  pub contains_has : (xs : List X) (x : X) → Contains xs x → Has xs x
  contains_has xs x c = contains_at xs x c.0 c.1 c.2

module _ {X : Type 0} (P : X → Type 0) where
  pub at_member : (xs : List X) (x : X) → AllByRecursion P xs → Has xs x → P x
  at_member [] x all h = absurd h
  at_member (y ∷ xs) x all (inl e) = subst P e all.0
  at_member (y ∷ xs) x all (inr h) = at_member xs x all.1 h

  pub front_all : (xs ys : List X) → AllByRecursion P (xs ++ ys) → AllByRecursion P xs
  front_all [] ys h = tt
  front_all (x ∷ xs) ys h = (h.0, front_all xs ys h.1)

  pub all_members : (xs : List X) → ((x : X) → Has xs x → P x) → AllByRecursion P xs
  all_members [] h = tt
  all_members (x ∷ xs) h = (h x (inl refl), all_members xs (λ y there. h y (inr there)))

pub has_map : {X Y : Type 0} (f : X → Y) (xs : List X) (x : X) → Has xs x → Has (map f xs) (f x)
has_map f [] x h = absurd h
has_map f (y ∷ xs) x (inl e) = inl (ap f e)
has_map f (y ∷ xs) x (inr h) = inr (has_map f xs x h)

pub has_flat : {X Y : Type 0} (f : X → List Y) (xs : List X) (x : X) (y : Y) → Has xs x → Has (f x) y → Has (flat_map f xs) y
has_flat f [] x y h g = absurd h
has_flat f (z ∷ xs) x y (inl e) g = has_left (f z) (flat_map f xs) y (subst (λ w. Has (f w) y) (sym e) g)
has_flat f (z ∷ xs) x y (inr h) g = has_right (f z) (flat_map f xs) y (has_flat f xs x y h g)

-- what a place of a mapped list has
pub record Mapped {X Y : Type 0} (f : X → Y) (xs : List X) (k : ℕ) (y : Y) : Type 0 where
  pub x : X
  pub at : slice_get xs k ≡ Some x
  pub is : f x ≡ y

pub mapped : {X Y : Type 0} (f : X → Y) (xs : List X) (k : ℕ) (y : Y) → slice_get (map f xs) k ≡ Some y → Mapped f xs k y
mapped f [] k y e = absurd (cc)
mapped f (x ∷ xs) zero y e = record { x = x; at = refl; is = cc }
mapped f (x ∷ xs) (suc k) y e = (let m = mapped f xs k y e in record { x = m.x; at = m.at; is = m.is })

pub get_map : {X Y : Type 0} (f : X → Y) (xs : List X) (k : ℕ) (x : X) → slice_get xs k ≡ Some x → slice_get (map f xs) k ≡ Some (f x)
get_map f [] k x e = absurd (cc)
get_map f (y ∷ xs) zero x e = (let same : y ≡ x = cc in ap (λ z. Some (f z)) same)
get_map f (y ∷ xs) (suc k) x e = get_map f xs k x e

-- ---- lists of different elements, by recursion
abbrev pub Distinct : {X : Type 0} → List X → Type 0
Distinct [] = Unit {0}
Distinct (x ∷ xs) = AllByRecursion (λ y. x ≢ y) xs × Distinct xs

pub distinct_from : {X : Type 0} (xs : List X) → AllPairs (λ (a b : X). a ≢ b) xs → Distinct xs
distinct_from [] h = tt
distinct_from {X} (x ∷ xs) h = (
  recursion_from_All (λ (y : X). x ≢ y) xs (λ k d l. h 0 (suc k) d (omega arith) (omega (arith, l))),
  distinct_from xs (λ i j d a b. h (suc i) (suc j) d (omega (arith, a)) (omega (arith, b))),
)

pub distinct_front : {X : Type 0} (xs ys : List X) → Distinct (xs ++ ys) → Distinct xs
distinct_front [] ys h = tt
distinct_front (x ∷ xs) ys h = (front_all (λ y. x ≢ y) xs ys h.0, distinct_front xs ys h.1)

-- ---- names
test_false : (t : Bool) → (t ≡ true → ⊥) → t ≡ false
test_false true never = absurd (never refl)
test_false false never = refl

pub other_name : (a b : List ℕ) → a ≢ b → bytes_eq a b ≡ false
other_name a b other = test_false (bytes_eq a b) (λ e. other ((bytes_eq-Decides a b).0 e))

-- names that differ, by recursion
abbrev pub Apart : {V : Type 0} → List (Named V) → Type 0
Apart [] = Unit {0}
Apart (x ∷ xs) = AllByRecursion (λ y. x.name ≢ y.name) xs × Apart xs

module _ {V : Type 0} where
  pub apart_from : (xs : List (Named V)) → Differ xs → Apart xs
  apart_from [] h = tt
  apart_from (x ∷ xs) h = (
    recursion_from_All (λ (y : Named V). x.name ≢ y.name) xs (λ k d l. h 0 (suc k) d (omega arith) (omega (arith, l))),
    apart_from xs (λ i j d a b. h (suc i) (suc j) d (omega (arith, a)) (omega (arith, b))),
  )

  pub apart_front : (xs ys : List (Named V)) → Apart (xs ++ ys) → Apart xs
  apart_front [] ys h = tt
  apart_front (x ∷ xs) ys h = (front_all (λ (y : Named V). x.name ≢ y.name) xs ys h.0, apart_front xs ys h.1)

  pub apart_back : (xs ys : List (Named V)) → Apart (xs ++ ys) → Apart ys
  apart_back [] ys h = h
  apart_back (x ∷ xs) ys h = apart_back xs ys h.1

  pub apart_sides : (xs ys : List (Named V)) (x y : Named V) → Apart (xs ++ ys) → Has xs x → Has ys y → x.name ≢ y.name
  apart_sides [] ys x y apart a b = absurd a
  apart_sides (z ∷ xs) ys x y apart (inl e) b =
      subst (λ (w : Named V). w.name ≢ y.name) e (at_member (λ (w : Named V). z.name ≢ w.name) (xs ++ ys) y apart.0 (has_right xs ys y b))
  apart_sides (z ∷ xs) ys x y apart (inr h) b = apart_sides xs ys x y apart.1 h b

  -- an entry is found by its name
  pub record Found (xs : List (Named V)) (z : Named V) : Type 0 where
    pub value : value_of xs z.name ≡ Some z.value
    pub place : ℕ
    pub first : position_or_len (λ (x : Named V). bytes_eq z.name x.name) xs ≡ place
    pub there : slice_get xs place ≡ Some z
    pub within : place < length xs

  pub found_here : (x z : Named V) (xs : List (Named V)) → x ≡ z → Found (x ∷ xs) z
  found_here x z xs e =
      let same : bytes_eq z.name x.name ≡ true =
      subst (λ (y : Named V). bytes_eq z.name y.name ≡ true) (sym e) (bytes_eq-self z.name) in
      record {
        value = rw same (ap (λ (y : Named V). Some y.value) e);
        place = 0;
        first = rw same refl;
        there = ap Some e;
        within = omega arith;
      }

  pub found_later : (x z : Named V) (xs : List (Named V)) → x.name ≢ z.name → Found xs z → Found (x ∷ xs) z
  found_later x z xs other f =
      let never : bytes_eq z.name x.name ≡ false = other_name z.name x.name (λ e. other (sym e)) in
      let less = f.within in
      let at = f.first in
      let next : 1 + position_or_len (λ (y : Named V). bytes_eq z.name y.name) xs ≡ suc f.place = omega (arith, at) in
      record {
        value = rw never f.value;
        place = suc f.place;
        first = rw never next;
        there = f.there;
        within = omega (arith, less);
      }

  pub found : (xs : List (Named V)) (z : Named V) → Apart xs → Has xs z → Found xs z
  found [] z apart h = absurd h
  found (x ∷ xs) z apart (inl e) = found_here x z xs e
  found (x ∷ xs) z apart (inr h) =
      found_later x z xs (at_member (λ (y : Named V). x.name ≢ y.name) xs z apart.0 h) (found xs z apart.1 h)

  pub place_some : (xs : List (Named V)) (z : Named V) (f : Found xs z) → place_of xs z.name ≡ Some f.place
  place_some xs z f =
      let at = f.first in
      let within = f.within in
      let p : ℕ = position_or_len (λ (x : Named V). bytes_eq z.name x.name) xs in
      let less : p < length xs = omega (arith, at, within) in
      ap (λ b. cond b (Some p) None) (lt-ltb p (length xs) less) ∙ ap Some at
