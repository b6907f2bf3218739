-- A plan of stalls: how many bytes may drain in each cycle (this project's profile).
use Rattle.std.specs.Prelude.{◌≡◌, ℕ, ◌+◌, ◌%◌, ◌≤◌, List, [], ◌∷◌, Option, Some, None, length, replicate, slice_get, slice_index_or}
use Rattle.std.specs.List.{flat_map}
use Rattle.env_script.specs.declared.stalls.Drain.{Drain}

-- the allowances of the plan's cycles, one for each, None for all: those of its first line for its number of cycles, and so on
abbrev pub allowances : List Drain → List (Option ℕ)
allowances drains = flat_map (λ (d : Drain). replicate d.cycles d.allowance) drains

-- what a line allows, and all where there is none
abbrev pub allowance_in : Option Drain → Option ℕ
allowance_in None = None
allowance_in (Some d) = d.allowance

-- after its last line the plan begins anew; without a line everything drains
abbrev pub allowance_at : List Drain → ℕ → Option ℕ
allowance_at drains cycle = slice_index_or (allowances drains) (cycle % length (allowances drains)) None

-- each line is for 1 cycle at least
abbrev pub AreSome : List Drain → Type 0
AreSome drains = (k : ℕ) (d : Drain) → slice_get drains k ≡ Some d → 1 ≤ d.cycles

-- how many cycles of the plan lie before and in each line, where n lie before the first
abbrev pub ends_from : ℕ → List Drain → List ℕ
ends_from n [] = []
ends_from n (d ∷ drains) = (n + d.cycles) ∷ ends_from (n + d.cycles) drains
