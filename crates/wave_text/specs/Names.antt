-- Full names: identifiers joined by dots, the last of them a net of the instance that the others lead to.
use Rattle.std.specs.Prelude.{ℕ, ◌==◌, Bool, List, [], ◌∷◌}
use Rattle.std.specs.List.{slice_split}

abbrev pub is_dot : ℕ → Bool
is_dot b = b == 46

-- what stands between dots
abbrev pub parts : List ℕ → List (List ℕ)
parts name = slice_split is_dot name

-- all but the last of a list, and the last
abbrev pub but_last : List (List ℕ) → List (List ℕ)
but_last [] = []
but_last (x ∷ []) = []
but_last (x ∷ y ∷ xs) = x ∷ but_last (y ∷ xs)

abbrev pub last_of : List (List ℕ) → List ℕ
last_of [] = []
last_of (x ∷ []) = x
last_of (x ∷ y ∷ xs) = last_of (y ∷ xs)

-- the instances from the top down to the net's, and the net's name in the last
abbrev pub path_of : List ℕ → List (List ℕ)
path_of name = but_last (parts name)

abbrev pub base_of : List ℕ → List ℕ
base_of name = last_of (parts name)
