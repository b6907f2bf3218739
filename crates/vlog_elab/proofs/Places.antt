-- Modules by name and by place.
use Rattle.std.proofs.Common.{◌≡◌, ℕ, ◌+◌, ◌<◌, ◌≤◌, ◌⊎◌, inl, inr, List, [], ◌∷◌, map, length, Option, None, Some, slice_get}
use Rattle.std.proofs.Common.{if◌then◌else◌, get_or, refl, ap, ◌∙◌, arith}
use Rattle.std.specs.List.{position_from}
use Rattle.std.specs.Str.{bytes_eq}
use Rattle.std.proofs.lemmas.Iterator.Adapters.{position_from-zero}
use Rattle.std.proofs.lemmas.Option.{slice_get-get_or, slice_get_cases}
use Rattle.vlog_tree.specs.Tree.{ModuleOf}
use Rattle.vlog_hierarchy.specs.vlog_size.Table.{Named}
use Rattle.vlog_hierarchy.specs.vlog_size.Table as table
use Rattle.vlog_names.specs.Entries.{Names, module_entry}
use Rattle.vlog_hierarchy.specs.Outlines.{place_from, place_of}
use Rattle.vlog_hierarchy.proofs.Closed.{top_below}

from_place : (k : ℕ) (ms : List (ModuleOf ℕ)) (name : List ℕ)
    → position_from (λ (x : Named Names). bytes_eq name x.name) k (map module_entry ms) ≡ place_from k ms name
from_place k [] name = refl
from_place k (m ∷ ms) name = ap (λ (o : Option ℕ). if bytes_eq name m.name then Some k else o) (from_place (k + 1) ms name)

pub same_place : (t : List (Named Names)) (ms : List (ModuleOf ℕ)) (name : List ℕ) → t ≡ map module_entry ms
    → table.place_of t name ≡ place_of ms name
same_place t ms name is =
    ap (λ (x : List (Named Names)). table.place_of x name) is
    ∙ (position_from-zero (λ (x : Named Names). bytes_eq name x.name) (map module_entry ms) ∙ from_place 0 ms name)

pub there : (ms : List (ModuleOf ℕ)) (name : List ℕ) (k : ℕ) → place_of ms name ≡ Some k
    → (m : ModuleOf ℕ) × (slice_get ms k ≡ Some m)
there ms name k e = one (slice_get_cases ms k).1
  where
    one : ((x : ModuleOf ℕ) × (k < length ms) × (slice_get ms k ≡ Some x) × (get_or ms k x ≡ x))
        ⊎ ((length ms ≤ k) × (slice_get ms k ≡ None)) → (m : ModuleOf ℕ) × (slice_get ms k ≡ Some m)
    one (inl (x, l, is, r)) = (x, is)
    one (inr (l, none)) = let b = top_below ms name k e in absurd (omega (arith, l, b))
