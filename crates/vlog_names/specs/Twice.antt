-- E3: the names that stand twice, each at its second standing, in text order (this project's profile).
use Rattle.std.specs.Prelude.{ℕ, List, [], ◌∷◌, ◌++◌, map, is_some}
use Rattle.vlog_size.specs.vidi_bits.Findings.{told_if}
use Rattle.vlog_tree.specs.Tree.{ConnOf, ItemOf, InstanceItem, ModuleOf, FileOf}
use Rattle.vlog_size.specs.Table.{Named, value_of}
use Rattle.vlog_names.specs.Entries.{Names, entry, item_entries, header_entries, module_entry}
use Rattle.vlog_names.specs.declared.error.NameError.{NameError}
use Rattle.vlog_names.specs.declared.error.NameError.TheVariants as e

-- the name, where it stands among those before
abbrev pub twice_name : {V : Type 0} → List (Named V) → List ℕ → List NameError
twice_name before name = told_if (is_some (value_of before name)) (e.Twice name)

-- the names that stand among those before them
abbrev pub twice_among : {V : Type 0} → List (Named V) → List (Named V) → List NameError
twice_among before [] = []
twice_among before (x ∷ xs) = twice_name before x.name ++ twice_among (before ++ x ∷ []) xs

abbrev pub conn_entry : ConnOf ℕ → Named (Unit {0})
conn_entry c = entry c.id.name tt

-- the ports, or the parameters, in one instance's connections
abbrev pub twice_connected : List (ConnOf ℕ) → List NameError
twice_connected conns = twice_among [] (map conn_entry conns)

-- an item behind the names before it
abbrev pub twice_item : Names → ItemOf ℕ → List NameError
twice_item before (InstanceItem i) =
    twice_connected i.parameters ++ (twice_name before i.id.name ++ twice_connected i.ports)
twice_item before item = twice_among before (item_entries item)

abbrev pub twice_items : Names → List (ItemOf ℕ) → List NameError
twice_items before [] = []
twice_items before (x ∷ xs) = twice_item before x ++ twice_items (before ++ item_entries x) xs

-- in one module
unfoldable pub twice_in : ModuleOf ℕ → List NameError
twice_in m = twice_among [] (header_entries m) ++ twice_items (header_entries m) m.items

-- modules behind those before them: the name of each, and then what stands in it
abbrev pub twice_modules : List (Named Names) → List (ModuleOf ℕ) → List NameError
twice_modules before [] = []
twice_modules before (m ∷ ms) = twice_name before m.name ++ (twice_in m ++ twice_modules (before ++ module_entry m ∷ []) ms)

-- in a file
unfoldable pub twice_names : FileOf ℕ → List NameError
twice_names file = twice_modules [] file.modules
