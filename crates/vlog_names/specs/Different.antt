-- Entries of different names.
use Rattle.std.specs.Prelude.{◌≢◌, List}
use Rattle.std.specs.List.{AllPairs}
use Rattle.vlog_names.specs.declared.declaration.Declaration.{Declaration}
use Rattle.vlog_size.specs.Table.{Named}

-- no name stands twice
abbrev pub Differ : {V : Type 0} → List (Named V) → Type 0
Differ xs = AllPairs (λ a b. a.name ≢ b.name) xs

abbrev pub OtherName : Named Declaration → Named Declaration → Type 0
OtherName a b = a.name ≢ b.name
