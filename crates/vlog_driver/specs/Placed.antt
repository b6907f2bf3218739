-- The items of a module instance, each with what may be read there.
use Rattle.std.specs.Prelude.{ℕ, List, [], ◌∷◌}
use Rattle.vlog_tree.specs.Tree.{ItemOf, ModuleOf}
use Rattle.vlog_names.specs.vlog_size.declared.scope.Param.{Param}
use Rattle.vlog_names.specs.vlog_size.declared.scope.Scope.{Scope}
use Rattle.vlog_names.specs.vlog_size.Table.{Named}
use Rattle.vlog_names.specs.vlog_size.Names.{Readable}
use Rattle.vlog_scope.specs.Scope.{after_item}
use Rattle.vlog_block.specs.Sources.{names_of}

-- an item, and the number of the scope's parameters whose names stand before it
pub record Placed : Type 0 where
  pub declared : ℕ
  pub item : ItemOf ℕ

-- items, before which the names of the first k parameters stand
abbrev pub placed : List (Named Param) → ℕ → List (ItemOf ℕ) → List Placed
placed params k [] = []
placed params k (i ∷ is) = record { declared = k; item = i } ∷ placed params (after_item params k i) is

-- the items of an instance of a module
abbrev pub placed_items : ModuleOf ℕ → Scope → List Placed
placed_items m s = placed s.params s.declared m.items

-- what the expressions of an item read, before which the names of the first k parameters stand
abbrev pub names_at : Scope → ℕ → Readable
names_at s k = names_of (record s { declared = k })
