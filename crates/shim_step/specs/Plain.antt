-- Modules without parameters, local parameters and memories, and the nets of their instances, in text order (IEEE 1364-2005, 12.1 and 12.3).
use Rattle.std.specs.Prelude.{ℕ, List, [], ◌∷◌, ◌++◌, map, Option, None, Some, ◌≡◌}
use Rattle.std.specs.List.{flat_map, AllByRecursion}
use Rattle.vlog_tree.specs.Tree.{IdentOf, RangeOf, NamedValueOf, RegTailOf, InitTail, MemoryTail, Reg1Of, PortOf, EventOf, PosedgeEvent}
use Rattle.vlog_tree.specs.Tree.{ImplicitEvent, ItemOf, WiresItem, DrivenWiresItem, RegsItem, LocalparamsItem, AlwaysItem, ModuleOf}
use Rattle.flat_parts.specs.vlog_size.declared.scope.ScopeNet.{ScopeNet}
use Rattle.flat_parts.specs.vlog_size.Table.{Named}
use Rattle.flat_parts.specs.vlog_size.Names.{params_alone}
use Rattle.flat_parts.specs.vlog_names.Entries.{declared}
use Rattle.flat_parts.specs.vlog_names.Different.{Differ}
use Rattle.flat_parts.specs.vlog_scope.declared.extent.Extent.{Extent}
use Rattle.flat_parts.specs.vlog_scope.declared.extent.Extent.TheVariants.{NoRange}
use Rattle.flat_parts.specs.vlog_scope.Extents.{extent_of, port_extent, net_width}

abbrev pub net_named : List ℕ → Extent → Named ScopeNet
net_named name x = record { name = name; value = record { width = net_width x } }

-- what a range makes of a name, where there are no parameters
abbrev pub extent : Option (RangeOf ℕ) → Extent
extent range = extent_of (params_alone []) range

-- a port without direction is as the port before
abbrev pub port_nets : Extent → List (PortOf ℕ) → List (Named ScopeNet)
port_nets before [] = []
port_nets before (p ∷ ps) =
    net_named p.id.name (port_extent (params_alone []) before p.head) ∷ port_nets (port_extent (params_alone []) before p.head) ps

abbrev pub item_nets : ItemOf ℕ → List (Named ScopeNet)
item_nets (WiresItem range ids) = map (λ (id : IdentOf ℕ). net_named id.name (extent range)) ids
item_nets (DrivenWiresItem range ws) = map (λ (w : NamedValueOf ℕ). net_named w.id.name (extent range)) ws
item_nets (RegsItem range gs) = map (λ (g : Reg1Of ℕ). net_named g.id.name (extent range)) gs
item_nets item = []

abbrev pub nets_of : ModuleOf ℕ → List (Named ScopeNet)
nets_of m = port_nets NoRange m.ports ++ flat_map item_nets m.items

-- ---- the modules

abbrev pub IsPlainTail : Option (RegTailOf ℕ) → Type 0
IsPlainTail None = Unit {0}
IsPlainTail (Some (InitTail e)) = Unit {0}
IsPlainTail (Some (MemoryTail r)) = ⊥

abbrev pub IsPlainReg : Reg1Of ℕ → Type 0
IsPlainReg g = IsPlainTail g.tail

abbrev pub IsPlainItem : ItemOf ℕ → Type 0
IsPlainItem (RegsItem range gs) = AllByRecursion IsPlainReg gs
IsPlainItem (LocalparamsItem range vs) = ⊥
IsPlainItem item = Unit {0}

-- no parameters and no memories, and no name is declared twice
pub record IsPlain (m : ModuleOf ℕ) : Type 0 where
  pub bare : m.parameters ≡ []
  pub items : AllByRecursion IsPlainItem m.items
  pub differ : Differ (declared m)

-- a block that waits for a clock
abbrev pub IsPosedge : EventOf ℕ → Type 0
IsPosedge (PosedgeEvent clock) = Unit {0}
IsPosedge (ImplicitEvent parens) = ⊥

-- no `always @*`
abbrev pub IsClockedItem : ItemOf ℕ → Type 0
IsClockedItem (AlwaysItem a) = IsPosedge a.event
IsClockedItem item = Unit {0}

-- a reg without initialiser
abbrev pub HasNoInit : ItemOf ℕ → Type 0
HasNoInit (RegsItem range gs) = AllByRecursion (λ (g : Reg1Of ℕ). g.tail ≡ None) gs
HasNoInit item = Unit {0}

-- no reg of the module has an initialiser
pub record HasNoInits (m : ModuleOf ℕ) : Type 0 where
  pub ports : AllByRecursion (λ (p : PortOf ℕ). p.init ≡ None) m.ports
  pub items : AllByRecursion HasNoInit m.items
