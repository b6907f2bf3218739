-- E11: modules that contain themselves (IEEE 1364-2005, 12.1: a design has no module that contains itself; this project's profile).
use Rattle.std.specs.Prelude.{◌≡◌, ◌⊎◌, ℕ, ◌<◌, List, map, Option, None, Some}
use Rattle.std.specs.List.{Contains}
use Rattle.vlog_hierarchy.specs.Outlines.{Child, Outline, children_at}

-- the places of the modules that are instantiated in the module at place k
abbrev pub kids : List Outline → ℕ → List ℕ
kids os k = map (λ (c : Child). c.place) (children_at os k)

-- module b is instantiated in module a, directly or through other modules
pub data Below (os : List Outline) (a : ℕ) : ℕ → Type 0 where
  direct : {b : ℕ} → Contains (kids os a) b → Below os a b
  through : {b : ℕ} (c : ℕ) → Below os a c → Contains (kids os c) b → Below os a b

-- a module at fault: it is the top, or is instantiated anywhere below it, and contains itself
abbrev pub IsNested : List Outline → ℕ → ℕ → Type 0
IsNested os top k = ((k ≡ top) ⊎ Below os top k) × Below os k k

-- the first module at fault, or none
abbrev pub IsFirstNested : List Outline → ℕ → Option ℕ → Type 0
IsFirstNested os top None = (k : ℕ) → IsNested os top k → ⊥
IsFirstNested os top (Some k) = IsNested os top k × ((j : ℕ) → j < k → IsNested os top j → ⊥)

-- the same of a file, where nothing is at fault if the top isn't declared (E4)
abbrev pub IsNestedAnswer : List Outline → Option ℕ → Option ℕ → Type 0
IsNestedAnswer os None answer = answer ≡ None
IsNestedAnswer os (Some top) answer = IsFirstNested os top answer
