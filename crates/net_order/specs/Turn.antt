-- The loop that a path closes.
use Rattle.std.specs.Prelude.{◌≡◌, ℕ, zero, suc, ◌+◌, ◌-◌, ◌<◌, ◌≤◌, List, [], ◌∷◌, ◌++◌, length, slice_index}

-- the n numbers of a path from place low on, backwards
abbrev pub down : List ℕ → ℕ → ℕ → List ℕ
down path low zero = []
down path low (suc n) = slice_index path (low + n) ∷ down path low n

-- ds is the path from a place of x on, backwards, turned so that it begins with the least
pub record IsTurned (path : List ℕ) (x : ℕ) (ds : List ℕ) : Type 0 where
  pub first : ℕ
  pub top : ℕ
  pub from : first ≤ top
  pub within : top < length path
  pub there : slice_index path first ≡ x
  pub least : (t : ℕ) → first ≤ t → t < length path → slice_index path top ≤ slice_index path t
  pub all : ds ≡ down path first (top + 1 - first) ++ down path (top + 1) (length path - (top + 1))
