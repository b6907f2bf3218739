-- Who reads whom, as a list of numbers for each driver.
use Rattle.std.specs.Prelude.{ℕ, ◌<◌, List, length}
use Rattle.std.specs.List.{Contains}
use Rattle.net_design.specs.Names.{list_at}

abbrev pub Graph : Type 0
Graph = List (List ℕ)

-- i reads j
abbrev pub Points : Graph → ℕ → ℕ → Type 0
Points g i j = Contains (list_at g i) j

-- all numbers are below the graph's length
abbrev pub IsGraph : Graph → Type 0
IsGraph g = (i j : ℕ) → Points g i j → j < length g
