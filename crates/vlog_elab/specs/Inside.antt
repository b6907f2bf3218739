-- The instances in an instance that may be there or not.
use Rattle.std.specs.Prelude.{ℕ, List, [], Option, None, Some}
use Rattle.vlog_tree.specs.Tree.{ItemOf, ModuleOf}
use Rattle.vlog_scope.specs.Scope.{readable_at, after_item}
use Rattle.vlog_elab.specs.Instances.{ModuleInstance, item_children, children_from, children}

-- the instance that an item is, of whose parent's parameters k are declared before it
abbrev pub one_child : List (ModuleOf ℕ) → Option ModuleInstance → ℕ → ItemOf ℕ → List ModuleInstance
one_child modules None k item = []
one_child modules (Some i) k item = item_children modules i.path (readable_at i.scope k) item

-- the instances that items are
abbrev pub children_past : List (ModuleOf ℕ) → Option ModuleInstance → ℕ → List (ItemOf ℕ) → List ModuleInstance
children_past modules None k items = []
children_past modules (Some i) k items = children_from modules i.path i.scope k items

abbrev pub children_at : List (ModuleOf ℕ) → Option ModuleInstance → List ModuleInstance
children_at modules None = []
children_at modules (Some i) = children modules i

-- the number of parameters that are declared before what follows an item
abbrev pub declared_past : Option ModuleInstance → ℕ → ItemOf ℕ → ℕ
declared_past None k item = k
declared_past (Some i) k item = after_item i.scope.params k item
