-- Elements of the shims' lists.
use Rattle.std.proofs.Common.{◌≡◌, ℕ, zero, suc, ◌+◌, ◌<◌, List, [], ◌∷◌, Option, None, Some, sym, ap, ◌∙◌, subst, arith, inl, inr}
use Rattle.std.proofs.Common.{slice_get}
use Rattle.std.specs.List.{AllByRecursion}
use Rattle.std.specs.Option.{option_to_list}
use Rattle.net_order.proofs.vidi_bits_lemmas.Each.{each_append}
use Rattle.shim_trees.specs.Pieces.{each, each_some, upto}
use Rattle.shim_step.proofs.Elements.{Has, has_left, has_right}

module _ {X Y : Type 0} where
  pub has_each : (f : ℕ → Y → X) (k : ℕ) (ys : List Y) (j : ℕ) (y : Y) (i : ℕ) → i ≡ k + j → slice_get ys j ≡ Some y
      → Has (each f k ys) (f i y)
  has_each f k [] j y i is e = absurd (cc)
  has_each f k (z ∷ ys) zero y i is e =
      let same : z ≡ y = cc in
      let at : k ≡ i = omega (arith, is) in
      inl (ap (λ u. f k u) same ∙ ap (λ m. f m y) at)
  has_each f k (z ∷ ys) (suc j) y i is e = inr (has_each f (k + 1) ys j y i (omega (arith, is)) e)

  pub all_each : (P : X → Type 0) (f : ℕ → Y → X) → ((i : ℕ) (y : Y) → P (f i y)) → (k : ℕ) (ys : List Y) → AllByRecursion P (each f k ys)
  all_each P f h k [] = tt
  all_each P f h k (y ∷ ys) = (h k y, all_each P f h (k + 1) ys)

  pub has_some : (f : ℕ → Y → List X) (k : ℕ) (ys : List Y) (j : ℕ) (y : Y) (i : ℕ) (x : X) → i ≡ k + j → slice_get ys j ≡ Some y
      → Has (f i y) x → Has (each_some f k ys) x
  has_some f k [] j y i x is e h = absurd (cc)
  has_some f k (z ∷ ys) zero y i x is e h =
      let same : z ≡ y = cc in
      let at : i ≡ k = omega (arith, is) in
      has_left (f k z) (each_some f (k + 1) ys) x
      (subst (λ u. Has (f k u) x) (sym same) (subst (λ m. Has (f m y) x) at h))
  has_some f k (z ∷ ys) (suc j) y i x is e h =
      has_right (f k z) (each_some f (k + 1) ys) x (has_some f (k + 1) ys j y i x (omega (arith, is)) e h)

  pub all_some : (P : X → Type 0) (f : ℕ → Y → List X) → ((i : ℕ) (y : Y) → AllByRecursion P (f i y)) → (k : ℕ) (ys : List Y)
      → AllByRecursion P (each_some f k ys)
  all_some P f h k [] = tt
  all_some P f h k (y ∷ ys) = each_append P (f k y) (each_some f (k + 1) ys) (h k y) (all_some P f h (k + 1) ys)

pub has_upto : {X : Type 0} (f : ℕ → X) (k count i j : ℕ) → i ≡ k + j → j < count → Has (upto f k count) (f i)
has_upto f k zero i j is less = absurd (omega (arith, less))
has_upto f k (suc count) i zero is less = (let at : k ≡ i = omega (arith, is) in inl (ap f at))
has_upto f k (suc count) i (suc j) is less = inr (has_upto f (k + 1) count i j (omega (arith, is)) (omega (arith, less)))

pub all_upto : {X : Type 0} (P : X → Type 0) (f : ℕ → X) → ((i : ℕ) → P (f i)) → (k count : ℕ) → AllByRecursion P (upto f k count)
all_upto P f h k zero = tt
all_upto P f h k (suc count) = (h k, all_upto P f h (k + 1) count)

pub in_option : {X : Type 0} (o : Option X) (x : X) → o ≡ Some x → Has (option_to_list o) x
in_option None x e = absurd (cc)
in_option (Some y) x e = inl (cc)
