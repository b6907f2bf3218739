use Rattle.std.proofs.Common.{◌≡◌, ℕ, nat_eq, List, map, drop}
use Rattle.std.specs.Cmp.Lexicographic.{pointwise}
use Rattle.indexmap.specs.IndexMap.{get_by}
use Rattle.vlog_size.specs.vidi_bits.Findings.{or_first}
use Rattle.vlog_tree.specs.Plain.{plain_module}
use Rattle.vlog_hierarchy.specs.Outlines.{place_from, place_of}
use Rattle.vlog_hierarchy.proofs.places.places_of.Given as goal

abbrev pub invariant-loop-place : goal.invariant-loop-place
invariant-loop-place l = (name : List ℕ) → or_first (get_by (λ v. pointwise nat_eq name v.items) l.places)
    (place_from l.place (map plain_module (drop l.place l.modules)) name) ≡ place_of (map plain_module l.modules) name
