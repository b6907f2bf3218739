-- The instances of a file and its top in preorder and text order, each with its scope (IEEE 1364-2005, 12.1, 12.2 and 12.5; this
-- project's profile).
use Rattle.std.specs.Prelude.{ℕ, zero, suc, List, [], ◌∷◌, ◌++◌, slice_get, Option, None, Some}
use Rattle.std.specs.List.{flat_map}
use Rattle.vlog_tree.specs.Tree.{InstanceOf, ItemOf, WiresItem, DrivenWiresItem, RegsItem, LocalparamsItem, AssignItem, AlwaysItem}
use Rattle.vlog_tree.specs.Tree.{InstanceItem, ModuleOf, FileOf}
use Rattle.vlog_hierarchy.specs.vlog_size.declared.scope.Scope.{Scope}
use Rattle.vlog_hierarchy.specs.vlog_size.Names.{Readable}
use Rattle.vlog_scope.specs.Scope.{readable_at, after_item, scope_of, scope_with}
use Rattle.vlog_hierarchy.specs.Nodes.{Node}
use Rattle.vlog_hierarchy.specs.Outlines.{place_of}
use Rattle.vlog_hierarchy.specs.declared.nodes.TheConstants.{MOST_LEVELS}
pub use Rattle.vlog_names.specs.Entries.{modules_of}

-- an instance: the names of the instances that lead to it, the top's left out; the place of its module in the file, counted from 0;
-- that module; and its scope
pub record ModuleInstance : Type 0 where
  pub path : List (List ℕ)
  pub place : ℕ
  pub tree : ModuleOf ℕ
  pub scope : Scope

-- the instance of the module at place k that stands in an instance of this path, where the names of r may be read
abbrev pub child_of : List (List ℕ) → Readable → InstanceOf ℕ → ℕ → Option (ModuleOf ℕ) → List ModuleInstance
child_of path r x k None = []
child_of path r x k (Some m) =
    record { path = path ++ x.id.name ∷ []; place = k; tree = m; scope = scope_of r x.parameters m } ∷ []

-- it is left out where its module isn't declared (E4)
abbrev pub child_at : List (ModuleOf ℕ) → List (List ℕ) → Readable → InstanceOf ℕ → Option ℕ → List ModuleInstance
child_at modules path r x None = []
child_at modules path r x (Some k) = child_of path r x k (slice_get modules k)

abbrev pub item_children : List (ModuleOf ℕ) → List (List ℕ) → Readable → ItemOf ℕ → List ModuleInstance
item_children modules path r (WiresItem range names) = []
item_children modules path r (DrivenWiresItem range wires) = []
item_children modules path r (RegsItem range regs) = []
item_children modules path r (LocalparamsItem range parameters) = []
item_children modules path r (AssignItem assigns) = []
item_children modules path r (AlwaysItem a) = []
item_children modules path r (InstanceItem x) = child_at modules path r x (place_of modules x.module_id.name)

-- those that stand in an instance of this scope, of whose parameters the first k are declared before the items
abbrev pub children_from : List (ModuleOf ℕ) → List (List ℕ) → Scope → ℕ → List (ItemOf ℕ) → List ModuleInstance
children_from modules path s k [] = []
children_from modules path s k (item ∷ items) =
    item_children modules path (readable_at s k) item ++ children_from modules path s (after_item s.params k item) items

-- the instances that stand in an instance, in text order
unfoldable pub children : List (ModuleOf ℕ) → ModuleInstance → List ModuleInstance
children modules i = children_from modules i.path i.scope i.scope.declared i.tree.items

-- an instance and all those in it, in preorder and text order, at most n levels deep
unfoldable pub within : ℕ → List (ModuleOf ℕ) → ModuleInstance → List ModuleInstance
within zero modules i = []
within (suc n) modules i = i ∷ flat_map (within n modules) (children modules i)

-- the instance that the top is, of which no parameter is overridden
abbrev pub top_of : ℕ → Option (ModuleOf ℕ) → List ModuleInstance
top_of k None = []
top_of k (Some m) = record { path = []; place = k; tree = m; scope = scope_with [] m } ∷ []

-- there is none where the top isn't declared (E4)
abbrev pub top_at : List (ModuleOf ℕ) → Option ℕ → List ModuleInstance
top_at modules None = []
top_at modules (Some k) = top_of k (slice_get modules k)

-- the instances of a file and its top. More than 4,096 of them are too many (E12), and 4,096 are at most 4,096 levels deep
unfoldable pub instances : FileOf ℕ → List ℕ → List ModuleInstance
instances file top = flat_map (within MOST_LEVELS file.modules) (top_at file.modules (place_of file.modules top))

-- without its module and scope
abbrev pub node_of : ModuleInstance → Node
node_of i = record { path = i.path; place = i.place }
