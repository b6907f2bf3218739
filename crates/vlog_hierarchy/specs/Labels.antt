-- Numbers of modules, their labels, that show which modules can't contain themselves.
use Rattle.std.specs.Prelude.{◌≡◌, ◌⊎◌, ℕ, ◌<◌, ◌≤◌, List, Option, None, Some, slice_index_or}
use Rattle.std.specs.List.{Contains}
use Rattle.vlog_hierarchy.specs.Outlines.{Outline}
use Rattle.vlog_hierarchy.specs.Nested.{kids, Below}

-- past the last label there is 0
abbrev pub label_of : List ℕ → ℕ → ℕ
label_of labels k = slice_index_or labels k 0

-- no module that is instantiated in module a has a lower label than it
abbrev pub HoldsAbove : List Outline → List ℕ → ℕ → Type 0
HoldsAbove os labels a = (b : ℕ) → Contains (kids os a) b → label_of labels a ≤ label_of labels b

-- labels never fall from a module to one that is instantiated in it
abbrev pub NeverFall : List Outline → List ℕ → Type 0
NeverFall os labels = (a : ℕ) → HoldsAbove os labels a

-- some module that is instantiated in module a has its label
abbrev pub KeepsLabel : List Outline → List ℕ → ℕ → Type 0
KeepsLabel os labels a = (b : ℕ) × Contains (kids os a) b × (label_of labels b ≡ label_of labels a)

-- a module that labels which never fall leave open: it is the top or below it, and a module in it has its label
abbrev pub IsOpen : List Outline → List ℕ → ℕ → ℕ → Type 0
IsOpen os labels top k = ((k ≡ top) ⊎ Below os top k) × KeepsLabel os labels k

-- the first of them, or none
abbrev pub IsFirstOpen : List Outline → List ℕ → ℕ → Option ℕ → Type 0
IsFirstOpen os labels top None = (k : ℕ) → IsOpen os labels top k → ⊥
IsFirstOpen os labels top (Some k) = IsOpen os labels top k × ((j : ℕ) → j < k → IsOpen os labels top j → ⊥)
