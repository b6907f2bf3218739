-- Two lists of pieces, place by place.
use Rattle.std.proofs.Common.{◌≡◌, ℕ, zero, suc, ◌+◌, ◌<◌, List, [], ◌∷◌, ◌++◌, map, length, Some, refl, ap, ◌∙◌, subst, arith}
use Rattle.std.proofs.Common.{slice_get, get_or}
use Rattle.std.specs.List.{AllZip}
use Rattle.shim_gen.specs.shim_trees.Pieces.{each, each_some, upto}
use Rattle.shim_cosim.proofs.Zips.{zip_append}

-- ---- us many on each side
pub length_each : {X Y : Type 0} (f : ℕ → X → Y) (k : ℕ) (xs : List X) → length (each f k xs) ≡ length xs
length_each f k [] = refl
length_each f k (x ∷ xs) = ap suc (length_each f (k + 1) xs)

pub length_upto : {X : Type 0} (f : ℕ → X) (k count : ℕ) → length (upto f k count) ≡ count
length_upto f k zero = refl
length_upto f k (suc count) = ap suc (length_upto f (k + 1) count)

module _ {X Y : Type 0} (R : X → Y → Type 0) where
  -- ---- put together
  pub zip_each : {Z : Type 0} (f : ℕ → Z → X) (k : ℕ) (zs : List Z) (xs : List Y) → length zs ≡ length xs
      → ((i j : ℕ) (z : Z) (x : Y) → slice_get zs i ≡ Some z → slice_get xs i ≡ Some x → j ≡ k + i → R (f j z) x)
      → AllZip R (each f k zs) xs
  zip_each f k [] [] l h = tt
  zip_each f k [] (x ∷ xs) l h = absurd (omega (arith, l))
  zip_each f k (z ∷ zs) [] l h = absurd (omega (arith, l))
  zip_each f k (z ∷ zs) (x ∷ xs) l h = (
    h 0 k z x refl refl (omega arith),
    zip_each f (k + 1) zs xs (omega (arith, l)) (λ i j y w a b e. h (suc i) j y w a b (omega (arith, e))),
  )

  pub zip_upto : (f : ℕ → X) (k count : ℕ) (xs : List Y) → length xs ≡ count
      → ((i j : ℕ) (x : Y) → slice_get xs i ≡ Some x → j ≡ k + i → R (f j) x) → AllZip R (upto f k count) xs
  zip_upto f k zero [] l h = tt
  zip_upto f k zero (x ∷ xs) l h = absurd (omega (arith, l))
  zip_upto f k (suc count) [] l h = absurd (omega (arith, l))
  zip_upto f k (suc count) (x ∷ xs) l h = (
    h 0 k x refl (omega arith),
    zip_upto f (k + 1) count xs (omega (arith, l)) (λ i j y a e. h (suc i) j y a (omega (arith, e))),
  )

  pub zip_some : {Z : Type 0} (f : ℕ → Z → List X) (g : ℕ → Z → List Y) (k : ℕ) (zs : List Z)
      → ((i j : ℕ) (z : Z) → slice_get zs i ≡ Some z → j ≡ k + i → AllZip R (f j z) (g j z))
      → AllZip R (each_some f k zs) (each_some g k zs)
  zip_some f g k [] h = tt
  zip_some f g k (z ∷ zs) h =
      zip_append R (f k z) (each_some f (k + 1) zs) (g k z) (each_some g (k + 1) zs) (h 0 k z refl (omega arith))
      (zip_some f g (k + 1) zs (λ i j y at e. h (suc i) j y at (omega (arith, e))))

  -- ---- taken apart
  pub zip_front : (us bs : List X) (xs ys : List Y) → length us ≡ length xs → AllZip R (us ++ bs) (xs ++ ys) → AllZip R us xs
  zip_front [] bs [] ys l h = tt
  zip_front [] bs (x ∷ xs) ys l h = absurd (omega (arith, l))
  zip_front (a ∷ us) bs [] ys l h = absurd (omega (arith, l))
  zip_front (a ∷ us) bs (x ∷ xs) ys l h = (h.0, zip_front us bs xs ys (omega (arith, l)) h.1)

  pub zip_back : (us bs : List X) (xs ys : List Y) → length us ≡ length xs → AllZip R (us ++ bs) (xs ++ ys) → AllZip R bs ys
  zip_back [] bs [] ys l h = h
  zip_back [] bs (x ∷ xs) ys l h = absurd (omega (arith, l))
  zip_back (a ∷ us) bs [] ys l h = absurd (omega (arith, l))
  zip_back (a ∷ us) bs (x ∷ xs) ys l h = zip_back us bs xs ys (omega (arith, l)) h.1

  pub some_at : {Z : Type 0} (f : ℕ → Z → List X) (g : ℕ → Z → List Y) (k : ℕ) (zs : List Z)
      → ((i j : ℕ) (z : Z) → slice_get zs i ≡ Some z → j ≡ k + i → length (f j z) ≡ length (g j z))
      → AllZip R (each_some f k zs) (each_some g k zs)
      → (c j : ℕ) (z : Z) → slice_get zs c ≡ Some z → j ≡ k + c → AllZip R (f j z) (g j z)
  some_at f g k [] long h c j z at e = absurd (cc)
  some_at {Z} f g k (y ∷ zs) long h zero j z at e =
      let same : y ≡ z = cc in
      let here : k ≡ j = omega (arith, e) in
      subst (λ i. AllZip R (f i z) (g i z)) here
      (subst (λ (w : Z). AllZip R (f k w) (g k w)) same
      (zip_front (f k y) (each_some f (k + 1) zs) (g k y) (each_some g (k + 1) zs) (long 0 k y refl (omega arith)) h))
  some_at f g k (y ∷ zs) long h (suc c) j z at e =
      some_at f g (k + 1) zs (λ i j w a q. long (suc i) j w a (omega (arith, q)))
      (zip_back (f k y) (each_some f (k + 1) zs) (g k y) (each_some g (k + 1) zs) (long 0 k y refl (omega arith)) h)
      c j z at (omega (arith, e))

-- numbers
module _ {X : Type 0} (R : X → ℕ → Type 0) where
  pub upto_at : (f : ℕ → X) (k count : ℕ) (xs : List ℕ) → AllZip R (upto f k count) xs → (i j : ℕ) → j ≡ k + i → i < count
      → R (f j) (get_or xs i 0)
  upto_at f k zero xs h i j e l = absurd (omega (arith, l))
  upto_at f k (suc count) [] h i j e l = absurd h
  upto_at f k (suc count) (x ∷ xs) h zero j e l = (let same : k ≡ j = omega (arith, e) in subst (λ i. R (f i) x) same h.0)
  upto_at f k (suc count) (x ∷ xs) h (suc i) j e l = upto_at f (k + 1) count xs h.1 i j (omega (arith, e)) (omega (arith, l))

  pub each_at : {Z : Type 0} (f : ℕ → Z → X) (k : ℕ) (zs : List Z) (xs : List ℕ) → AllZip R (each f k zs) xs → (i j : ℕ) (z : Z) → j ≡ k + i
      → slice_get zs i ≡ Some z → R (f j z) (get_or xs i 0)
  each_at f k [] xs h i j z e at = absurd (cc)
  each_at f k (y ∷ zs) [] h i j z e at = absurd h
  each_at {Z} f k (y ∷ zs) (x ∷ xs) h zero j z e at =
      let same : y ≡ z = cc in
      let here : k ≡ j = omega (arith, e) in
      subst (λ i. R (f i z) x) here (subst (λ (w : Z). R (f k w) x) same h.0)
  each_at f k (y ∷ zs) (x ∷ xs) h (suc i) j z e at = each_at f (k + 1) zs xs h.1 i j z (omega (arith, e)) at

pub each_get : {X P : Type 0} (g : P → ℕ) (f : ℕ → X → P) (k : ℕ) (xs : List X) (i j : ℕ) (x : X) → j ≡ k + i → slice_get xs i ≡ Some x
    → get_or (map g (each f k xs)) i 0 ≡ g (f j x)
each_get g f k [] i j x e at = absurd (cc)
each_get g f k (y ∷ xs) zero j x e at =
    let same : y ≡ x = cc in
    let here : k ≡ j = omega (arith, e) in
    ap (λ z. g (f k z)) same ∙ ap (λ m. g (f m x)) here
each_get g f k (y ∷ xs) (suc i) j x e at = each_get g f (k + 1) xs i j x (omega (arith, e)) at
