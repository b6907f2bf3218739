-- Full names as text: an instance path and a name, joined by dots (IEEE 1364-2005, 12.5, with the top's own name left out).
use Rattle.std.specs.Prelude.{◌≡◌, ℕ, List, [], ◌∷◌, ◌++◌, Some, slice_get}
use Rattle.net_design.specs.declared.design.Instance.{Instance}
use Rattle.net_design.specs.declared.design.Net.{Net}
use Rattle.net_design.specs.Names.{list_at, paths}

-- the names of a path, each with a dot behind it
abbrev pub dotted : List (List ℕ) → List ℕ
dotted [] = []
dotted (name ∷ path) = name ++ (46 ∷ dotted path)

-- the full name of a net
abbrev pub full_name : List Instance → Net → List ℕ
full_name instances n = dotted (list_at (paths instances) n.instance) ++ n.name

-- net m has this full name
abbrev pub IsCalled : List Instance → List Net → List ℕ → ℕ → Type 0
IsCalled instances nets name m = (n : Net) × (slice_get nets m ≡ Some n) × (full_name instances n ≡ name)
