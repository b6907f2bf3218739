-- Lists of lists.
use Rattle.std.proofs.Common.{◌≡◌, ℕ, zero, suc, ◌<◌, ◌≤◌, List, [], ◌∷◌, ◌++◌, length, slice_index_or, refl, arith}
use Rattle.net_design.specs.Names.{list_at}

pub list_read : {X : Type 0} (xs : List (List X)) (i : ℕ) (d : List X) → i < length xs → slice_index_or xs i d ≡ list_at xs i
list_read [] i d l = absurd (omega arith)
list_read (x ∷ xs) zero d l = refl
list_read (x ∷ xs) (suc i) d l = list_read xs i d (omega arith)

pub list_more : {X : Type 0} (xs : List (List X)) (m : ℕ) → list_at (xs ++ [] ∷ []) m ≡ list_at xs m
list_more [] zero = refl
list_more [] (suc m) = refl
list_more (x ∷ xs) zero = refl
list_more (x ∷ xs) (suc m) = list_more xs m

pub list_past : {X : Type 0} (xs : List (List X)) (m : ℕ) → length xs ≤ m → list_at xs m ≡ []
list_past [] m l = refl
list_past (x ∷ xs) zero l = absurd (omega arith)
list_past (x ∷ xs) (suc m) l = list_past xs m (omega arith)
