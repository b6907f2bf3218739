-- The kinds of nets, net by net, where a table has the names of the top's inputs.
use Rattle.std.specs.Prelude.{◌≡◌, ℕ, ◌+◌, Bool, false, List, [], ◌∷◌, ◌++◌, map, slice_get, Option, None, Some, is_some}
use Rattle.flat_parts.specs.vidi_bits.Findings.{told_if}
use Rattle.vlog_tree.specs.Tree.{PortOf, ModuleOf}
use Rattle.flat_parts.specs.vlog_size.declared.scope.ScopeNet.{ScopeNet}
use Rattle.flat_parts.specs.vlog_size.Table.{Named, value_of}
use Rattle.flat_parts.specs.net_drive.declared.findings.NetKind.{NetKind}
use Rattle.flat_parts.specs.vlog_names.Ports.{input_after}
use Rattle.flat_parts.specs.vlog_driver.Names.{Name}
use Rattle.flat_drive.specs.Kinds.{has_input, kind_if}

-- the names of the inputs among ports, where the port before them is an input or isn't
abbrev pub inputs_after : Bool → List (PortOf ℕ) → List Name
inputs_after before [] = []
inputs_after before (p ∷ ps) = told_if (input_after before p.head) p.id.name ++ inputs_after (input_after before p.head) ps

abbrev pub is_listed : List (Named Bool) → Name → Bool
is_listed table name = is_some (value_of table name)

-- the table has the names of a module's inputs
abbrev pub IsInputTable : ModuleOf ℕ → List (Named Bool) → Type 0
IsInputTable m table = (name : Name) → is_listed table name ≡ has_input m name

abbrev pub is_listed_there : List (Named Bool) → Option Name → Bool
is_listed_there table None = false
is_listed_there table (Some name) = is_listed table name

-- whether the name of the net at this place is in the table
abbrev pub is_pin : List (Named Bool) → List (Named ScopeNet) → ℕ → Bool
is_pin table nets place = is_listed_there table (slice_get (map (λ (n : Named ScopeNet). n.name) nets) place)

-- of nets, the first of which is net k, which are regs or aren't
abbrev pub kinds_from : (ℕ → Bool) → ℕ → List Bool → List NetKind
kinds_from pin k [] = []
kinds_from pin k (reg ∷ regs) = kind_if (pin k) reg ∷ kinds_from pin (k + 1) regs
