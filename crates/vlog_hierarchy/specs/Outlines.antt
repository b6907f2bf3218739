-- What the modules of a file hold of the design's hierarchy: nets and instances (IEEE 1364-2005, 12.1; this project's profile).
use Rattle.std.specs.Prelude.{ℕ, ◌+◌, Bool, true, false, List, [], ◌∷◌, map, length, Option, None, Some, if◌then◌else◌, slice_get}
use Rattle.std.specs.List.{flat_map, sum_by}
use Rattle.std.specs.Str.{bytes_eq}
use Rattle.vlog_tree.specs.Tree.{RegTailOf, InitTail, MemoryTail, Reg1Of, InstanceOf, ItemOf, WiresItem, DrivenWiresItem, RegsItem}
use Rattle.vlog_tree.specs.Tree.{LocalparamsItem, AssignItem, AlwaysItem, InstanceItem, ModuleOf}

-- an instance whose module is declared, and that module's place in the file, counted from 0
pub record Child : Type 0 where
  pub instance : InstanceOf ℕ
  pub place : ℕ

-- how many nets a module declares, and its instances in text order
pub record Outline : Type 0 where
  pub nets : ℕ
  pub children : List Child

-- ---- nets: ports, wires and regs, without memories

-- a `reg` with a range of words is a memory
abbrev pub is_memory : Option (RegTailOf ℕ) → Bool
is_memory None = false
is_memory (Some (InitTail e)) = false
is_memory (Some (MemoryTail r)) = true

abbrev pub reg_nets : Reg1Of ℕ → ℕ
reg_nets r = if is_memory r.tail then 0 else 1

abbrev pub item_nets : ItemOf ℕ → ℕ
item_nets (WiresItem range names) = length names
item_nets (DrivenWiresItem range wires) = length wires
item_nets (RegsItem range regs) = sum_by reg_nets regs
item_nets (LocalparamsItem range parameters) = 0
item_nets (AssignItem assigns) = 0
item_nets (AlwaysItem a) = 0
item_nets (InstanceItem i) = 0

unfoldable pub net_count : ModuleOf ℕ → ℕ
net_count m = length m.ports + sum_by item_nets m.items

-- ---- instances

-- the place of the first module of this name, where the list begins at place k
abbrev pub place_from : ℕ → List (ModuleOf ℕ) → List ℕ → Option ℕ
place_from k [] name = None
place_from k (m ∷ modules) name = if bytes_eq name m.name then Some k else place_from (k + 1) modules name

-- the place of the first module of this name
abbrev pub place_of : List (ModuleOf ℕ) → List ℕ → Option ℕ
place_of modules name = place_from 0 modules name

-- an instance is left out where its module isn't declared (E4)
abbrev pub child_at : InstanceOf ℕ → Option ℕ → List Child
child_at i None = []
child_at i (Some k) = record { instance = i; place = k } ∷ []

abbrev pub item_children : List (ModuleOf ℕ) → ItemOf ℕ → List Child
item_children modules (WiresItem range names) = []
item_children modules (DrivenWiresItem range wires) = []
item_children modules (RegsItem range regs) = []
item_children modules (LocalparamsItem range parameters) = []
item_children modules (AssignItem assigns) = []
item_children modules (AlwaysItem a) = []
item_children modules (InstanceItem i) = child_at i (place_of modules i.module_id.name)

unfoldable pub children_of : List (ModuleOf ℕ) → ModuleOf ℕ → List Child
children_of modules m = flat_map (item_children modules) m.items

-- ---- all modules of a file

abbrev pub outline_of : List (ModuleOf ℕ) → ModuleOf ℕ → Outline
outline_of modules m = record { nets = net_count m; children = children_of modules m }

unfoldable pub outlines_of : List (ModuleOf ℕ) → List Outline
outlines_of modules = map (outline_of modules) modules

-- past the last module there is nothing
abbrev pub children_in : Option Outline → List Child
children_in None = []
children_in (Some o) = o.children

abbrev pub nets_in : Option Outline → ℕ
nets_in None = 0
nets_in (Some o) = o.nets

-- the instances of the module at place k
abbrev pub children_at : List Outline → ℕ → List Child
children_at os k = children_in (slice_get os k)

-- the number of its nets
abbrev pub nets_at : List Outline → ℕ → ℕ
nets_at os k = nets_in (slice_get os k)
