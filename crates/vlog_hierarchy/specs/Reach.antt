-- The modules found on a walk, as a list and as a mark for each module.
use Rattle.std.specs.Prelude.{ℕ, ◌<◌, ◌++◌, not, Bool, true, false, List, [], ◌∷◌, map, length, slice_index_or, slice_set}
use Rattle.std.specs.List.{Contains}
use Rattle.vlog_size.specs.vidi_bits.Findings.{told_if}
use Rattle.vlog_hierarchy.specs.declared.outline.Child.{Child}
use Rattle.vlog_hierarchy.specs.Outlines.{Outline}
use Rattle.vlog_hierarchy.specs.Nested.{kids}

-- the places of the modules of these instances
abbrev pub child_places : List Child → List ℕ
child_places cs = map (λ (c : Child). c.place) cs

abbrev pub is_marked : List Bool → ℕ → Bool
is_marked marks k = slice_index_or marks k false

-- the marks when these are found too
abbrev pub marked_all : List Bool → List ℕ → List Bool
marked_all marks [] = marks
marked_all marks (k ∷ ks) = marked_all (slice_set marks k true) ks

-- those of these that weren't marked before, each once
abbrev pub fresh : List Bool → List ℕ → List ℕ
fresh marks [] = []
fresh marks (k ∷ ks) = told_if (not (is_marked marks k)) k ++ fresh (slice_set marks k true) ks

-- all are below n
abbrev pub AreBelow : ℕ → List ℕ → Type 0
AreBelow n ks = (k : ℕ) → Contains ks k → k < n

-- each instance's module is in the file
abbrev pub IsClosed : List Outline → Type 0
IsClosed os = (a : ℕ) → AreBelow (length os) (kids os a)
