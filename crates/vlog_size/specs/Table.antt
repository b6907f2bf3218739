-- Tables of values by name.
use Rattle.std.specs.Prelude.{ℕ, List, [], ◌∷◌, ◌++◌, map, position, Option, Some, None, is_some, if◌then◌else◌}
use Rattle.std.specs.Str.{bytes_eq}
use Rattle.std.specs.Global.{Vec}

-- a name and its value
pub record Named (V : Type 0) : Type 0 where
  pub name : List ℕ
  pub value : V

-- the entries of a table
abbrev pub named : {V : Type 0} → List (Vec ℕ × V) → List (Named V)
named es = map (λ e. record { name = e.0.items; value = e.1 }) es

-- the value of the first entry of this name
abbrev pub value_of : {V : Type 0} → List (Named V) → List ℕ → Option V
value_of [] name = None
value_of (x ∷ xs) name = if bytes_eq name x.name then Some x.value else value_of xs name

-- the first place of this name
abbrev pub place_of : {V : Type 0} → List (Named V) → List ℕ → Option ℕ
place_of xs name = position (λ x. bytes_eq name x.name) xs

-- with one more entry at the end, where the name isn't there
abbrev pub added : {V : Type 0} → List (Named V) → List ℕ → V → List (Named V)
added xs name v = if is_some (value_of xs name) then xs else xs ++ record { name = name; value = v } ∷ []
