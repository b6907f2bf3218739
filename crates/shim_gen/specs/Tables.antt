-- Tables to which entries are added one after the other.
use Rattle.std.specs.Prelude.{List, [], ◌∷◌}
use Rattle.shim_trees.specs.vlog_size.Table.{Named, added}

-- an entry counts only where none of its name stands before it
abbrev pub with_entries : {V : Type 0} → List (Named V) → List (Named V) → List (Named V)
with_entries xs [] = xs
with_entries xs (e ∷ es) = with_entries (added xs e.name e.value) es
