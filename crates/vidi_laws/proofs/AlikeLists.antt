-- What two lists have in common whose elements stand for the same things, one for one.
use Rattle.std.proofs.Common.{◌≡◌, zero, suc, Bool, ◌||◌, List, [], ◌∷◌, ◌++◌, refl, arith}
use Rattle.std.specs.List.{All, AllZip, flat_map, list_any}
use Rattle.vidi_commands.specs.vidi_bits.Findings.{is_nil}

module _ {A B : Type 0} (R : A → B → Type 0) where
  -- some element passes a test
  pub any-alike : (f : B → Bool) → ((u : A) (x y : B) → R u x → R u y → f x ≡ f y) → (us : List A) (xs ys : List B) → AllZip R us xs
      → AllZip R us ys → list_any f xs ≡ list_any f ys
  any-alike f same [] [] [] a b = refl
  any-alike f same [] [] (y ∷ ys) a b = absurd b
  any-alike f same [] (x ∷ xs) ys a b = absurd a
  any-alike f same (u ∷ us) [] ys a b = absurd a
  any-alike f same (u ∷ us) (x ∷ xs) [] a b = absurd b
  any-alike f same (u ∷ us) (x ∷ xs) (y ∷ ys) a b =
      let first = same u x y a.0 b.0 in
      let rest = any-alike f same us xs ys a.1 b.1 in
      λ i. first i || rest i

  -- what is made of the elements, put together
  pub joined-alike : {C : Type 0} (f : B → List C) → ((u : A) (x y : B) → R u x → R u y → f x ≡ f y) → (us : List A) (xs ys : List B)
      → AllZip R us xs → AllZip R us ys → flat_map f xs ≡ flat_map f ys
  joined-alike f same [] [] [] a b = refl
  joined-alike f same [] [] (y ∷ ys) a b = absurd b
  joined-alike f same [] (x ∷ xs) ys a b = absurd a
  joined-alike f same (u ∷ us) [] ys a b = absurd a
  joined-alike f same (u ∷ us) (x ∷ xs) [] a b = absurd b
  joined-alike f same (u ∷ us) (x ∷ xs) (y ∷ ys) a b =
      let first = same u x y a.0 b.0 in
      let rest = joined-alike f same us xs ys a.1 b.1 in
      λ i. first i ++ rest i

  pub nil-alike : (us : List A) (xs ys : List B) → AllZip R us xs → AllZip R us ys → is_nil xs ≡ is_nil ys
  nil-alike [] [] [] a b = refl
  nil-alike [] [] (y ∷ ys) a b = absurd b
  nil-alike [] (x ∷ xs) ys a b = absurd a
  nil-alike (u ∷ us) [] ys a b = absurd a
  nil-alike (u ∷ us) (x ∷ xs) [] a b = absurd b
  nil-alike (u ∷ us) (x ∷ xs) (y ∷ ys) a b = refl

  -- what holds of each element
  pub all-alike : (P : B → Type 0) → ((u : A) (x y : B) → R u x → R u y → P x → P y) → (us : List A) (xs ys : List B) → AllZip R us xs
      → AllZip R us ys → All P xs → All P ys
  all-alike P on [] xs [] a b h k z l = absurd (omega (arith, l))
  all-alike P on [] xs (y ∷ ys) a b h k z l = absurd b
  all-alike P on (u ∷ us) [] ys a b h k z l = absurd a
  all-alike P on (u ∷ us) (x ∷ xs) [] a b h k z l = absurd b
  all-alike P on (u ∷ us) (x ∷ xs) (y ∷ ys) a b h zero z l = on u x y a.0 b.0 (h zero x (omega arith))
  all-alike P on (u ∷ us) (x ∷ xs) (y ∷ ys) a b h (suc k) z l =
      all-alike P on us xs ys a.1 b.1 (λ j w m. h (suc j) w (omega (arith, m))) k z (omega (arith, l))
