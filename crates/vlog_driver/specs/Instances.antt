-- The instances of a file and top as paths (IEEE 1364-2005, 12.1 and 12.5).
use Rattle.std.specs.Prelude.{◌≡◌, ℕ, List, [], ◌∷◌}
use Rattle.std.specs.List.{Contains}
use Rattle.vlog_tree.specs.Tree.{InstanceOf, InstanceItem, ModuleOf}
use Rattle.vlog_names.specs.vlog_size.declared.scope.Scope.{Scope}
use Rattle.vlog_scope.specs.Scope.{readable_at, scope_with, scope_of}
use Rattle.vlog_driver.specs.Names.{Full}
use Rattle.vlog_driver.specs.Placed.{placed_items}

-- in an instance of module m with scope s stands an instance i of the file's module n, whose scope is t: its parameters are made by
-- what the connections of i read where it stands
pub record IsChild (file : List (ModuleOf ℕ)) (m : ModuleOf ℕ) (s : Scope) (i : InstanceOf ℕ) (n : ModuleOf ℕ) (t : Scope) : Type 0 where
  pub declared : ℕ
  pub stands : Contains (placed_items m s) (record { declared = declared; item = InstanceItem i })
  pub in_file : Contains file n
  pub named : n.name ≡ i.module_id.name
  pub scope : t ≡ scope_of (readable_at s declared) i.parameters n

-- from an instance of module m with scope s this path leads to an instance of module n with scope t
abbrev pub Leads : List (ModuleOf ℕ) → ModuleOf ℕ → Scope → Full → ModuleOf ℕ → Scope → Type 0
Leads file m s [] n t = (m ≡ n) × (s ≡ t)
Leads file m s (x ∷ path) n t =
    (i : InstanceOf ℕ) × (child : ModuleOf ℕ) × (inner : Scope) × (i.id.name ≡ x) × IsChild file m s i child inner
    × Leads file child inner path n t

-- an instance of module m with scope s stands at this path below the top
abbrev pub IsAt : List (ModuleOf ℕ) → ModuleOf ℕ → Full → ModuleOf ℕ → Scope → Type 0
IsAt file top path m s = Leads file top (scope_with [] top) path m s
