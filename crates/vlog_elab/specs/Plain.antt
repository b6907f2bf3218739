-- The instances of the code as plain data, without pointers.
use Rattle.std.specs.Prelude.{◌≡◌, ℕ, List, [], ◌∷◌, map, Option, None, Some}
use Rattle.std.specs.Borrow.{Bor}
use Rattle.vlog_tree.specs.Tree.{ModuleOf, FileOf}
use Rattle.vlog_tree.specs.Plain.{plain_module}
use Rattle.vlog_tree.specs.declared.module.Module.{Module}
use Rattle.vlog_names.specs.Entries.{module_entry}
use Rattle.vlog_hierarchy.specs.Plain.{plain_path}
use Rattle.vlog_hierarchy.specs.Outlines.{outlines_of}
use Rattle.vlog_hierarchy.specs.Nodes.{firsts, net_total}
use Rattle.vlog_elab.specs.Instances.{ModuleInstance, instances, node_of}
use Rattle.vlog_elab.specs.declared.instance.ModuleInstance as code
use Rattle.vlog_elab.specs.declared.instance.ModuleInstances.{ModuleInstances}
use Rattle.vlog_elab.specs.declared.modules.Modules.{Modules}

abbrev pub plain_borrowed : Bor Module → ModuleOf ℕ
plain_borrowed m = plain_module m.now

abbrev pub plain_instance : code.ModuleInstance → ModuleInstance
plain_instance i = record { path = plain_path i.path; place = i.place; tree = plain_borrowed i.tree; scope = i.scope }

abbrev pub plain_instances : List code.ModuleInstance → List ModuleInstance
plain_instances is = map plain_instance is

-- the modules of a file
abbrev pub trees_in : Modules → List (ModuleOf ℕ)
trees_in ms = map plain_module ms.list.now

-- the table is that of the modules
abbrev pub IsTable : Modules → Type 0
IsTable ms = ms.table.now ≡ map module_entry (trees_in ms)

-- the instance that is there
abbrev pub listed : Option code.ModuleInstance → List ModuleInstance
listed None = []
listed (Some i) = plain_instance i ∷ []

-- ---- the answer

-- the instances of a file and its top, with the numbers of their first nets and of all nets
abbrev pub AreInstances : FileOf ℕ → List ℕ → ModuleInstances → Type 0
AreInstances file top r = (plain_instances r.list ≡ instances file top)
    × ((r.firsts ≡ firsts (outlines_of file.modules) 0 (map node_of (instances file top)))
    × (r.nets ≡ net_total (outlines_of file.modules) (map node_of (instances file top))))
