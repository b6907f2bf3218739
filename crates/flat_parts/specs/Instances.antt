-- The instances of a file: their paths differ, and a table has what their modules declare.
use Rattle.std.specs.Prelude.{◌≡◌, ◌≢◌, List, map, slice_get, Some}
use Rattle.std.specs.List.{AllPairs, AllByRecursion}
use Rattle.vlog_elab.specs.vlog_size.Table.{Named}
use Rattle.vlog_elab.specs.vlog_names.Entries.{Names, declared}
use Rattle.vlog_elab.specs.Instances.{ModuleInstance}

abbrev pub HasOtherPath : ModuleInstance → ModuleInstance → Type 0
HasOtherPath a b = a.path ≢ b.path

-- no two instances have the same path
abbrev pub HaveOwnPaths : List ModuleInstance → Type 0
HaveOwnPaths is = AllPairs HasOtherPath is

-- at the place of an instance's module in the file stands what the module declares
abbrev pub IsDeclaredIn : List (Named Names) → ModuleInstance → Type 0
IsDeclaredIn modules i = slice_get (map (λ (m : Named Names). m.value) modules) i.place ≡ Some (declared i.tree)

abbrev pub AreDeclaredIn : List (Named Names) → List ModuleInstance → Type 0
AreDeclaredIn modules is = AllByRecursion (IsDeclaredIn modules) is
