-- Tables to which entries are added, each at the end; a name that is there keeps its value.
use Rattle.std.specs.Prelude.{List, [], ◌∷◌}
use Rattle.flat_parts.specs.vlog_size.Table.{Named, added}

abbrev pub with_entries : {V : Type 0} → List (Named V) → List (Named V) → List (Named V)
with_entries xs [] = xs
with_entries xs (e ∷ es) = with_entries (added xs e.name e.value) es
