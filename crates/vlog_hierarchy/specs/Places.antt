-- The modules of a file by name.
use Rattle.std.specs.Prelude.{◌≡◌, ℕ, nat_eq, List, map}
use Rattle.std.specs.Cmp.Lexicographic.{pointwise}
use Rattle.indexmap.specs.IndexMap.{get_by}
use Rattle.vlog_tree.specs.Plain.{plain_module}
use Rattle.vlog_hierarchy.specs.Outlines.{place_of}
use Rattle.vlog_hierarchy.specs.declared.places.Index.{Index}

-- the table has the place of the first module of each name
abbrev pub IsIndex : Index → Type 0
IsIndex x = (name : List ℕ) → get_by (λ v. pointwise nat_eq name v.items) x.places ≡ place_of (map plain_module x.modules.now) name
