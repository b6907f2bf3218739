-- The scope of a module instance: its parameters, nets and memories in text order (IEEE 1364-2005, 4.2, 4.9, 4.10, 12.3; this project's profile).
use Rattle.std.specs.Prelude.{ℕ, ◌+◌, max, List, [], ◌∷◌, length, take, map, slice_get, Option, Some, None}
use Rattle.std.specs.List.{sum_by}
use Rattle.vlog_tree.specs.Tree.{IdentOf, NamedValueOf, RegTailOf, InitTail, MemoryTail, Reg1Of, PortOf, ItemOf}
use Rattle.vlog_tree.specs.Tree.{WiresItem, DrivenWiresItem, RegsItem, LocalparamsItem, ModuleOf, ConnOf}
use Rattle.vlog_size.specs.declared.scope.Param.{Param}
use Rattle.vlog_size.specs.declared.scope.ScopeNet.{ScopeNet}
use Rattle.vlog_size.specs.declared.scope.ScopeMemory.{ScopeMemory}
use Rattle.vlog_size.specs.declared.scope.Scope.{Scope}
use Rattle.vlog_size.specs.Table.{Named, added, place_of}
use Rattle.vlog_size.specs.Names.{Readable, readable_of, params_alone}
use Rattle.vlog_size.specs.Size.{Sizes}
use Rattle.vlog_scope.specs.declared.extent.Extent.{Extent}
use Rattle.vlog_scope.specs.declared.extent.Extent.TheVariants.{NoRange}
use Rattle.vlog_scope.specs.Extents.{extent_of, port_extent, net_width, memory_length, or_most}
use Rattle.vlog_scope.specs.Params.{header_params, items_params, overrides_of}

-- what may be read where the names of the first k parameters stand before
abbrev pub readable_at : Scope → ℕ → Readable
readable_at s k = readable_of (record s { declared = k })

-- the parameters that are declared so far
abbrev pub declared_in : Scope → Readable
declared_in s = params_alone (take s.declared s.params)

-- the number of entries up to a place
abbrev pub up_to : Option ℕ → ℕ
up_to None = 0
up_to (Some place) = place + 1

-- the number of parameters whose names stand before what follows a name, where those of the first k stand before it
abbrev pub after_name : List (Named Param) → ℕ → List ℕ → ℕ
after_name params k name = max k (up_to (place_of params name))

abbrev pub after_names : List (Named Param) → ℕ → List (NamedValueOf ℕ) → ℕ
after_names params k [] = k
after_names params k (v ∷ vs) = after_names params (after_name params k v.id.name) vs

-- after an item
abbrev pub after_item : List (Named Param) → ℕ → ItemOf ℕ → ℕ
after_item params k (LocalparamsItem range vs) = after_names params k vs
after_item params k item = k

-- one more net behind this range
abbrev pub with_net : Extent → List (Named ScopeNet) → List ℕ → List (Named ScopeNet)
with_net x nets name = added nets name (record { width = net_width x })

-- with one more net
abbrev pub with_port : Extent → Scope → List ℕ → Scope
with_port x s name = record s { nets = with_net x s.nets name }

-- the ports' nets; a port without direction has the range of the port before
abbrev pub with_ports : Extent → Scope → List (PortOf ℕ) → Scope
with_ports before s [] = s
with_ports before s (p ∷ ps) =
    with_ports (port_extent (declared_in s) before p.head)
    (with_port (port_extent (declared_in s) before p.head) s p.id.name) ps

abbrev pub wire_nets : Extent → List (Named ScopeNet) → List (IdentOf ℕ) → List (Named ScopeNet)
wire_nets x nets [] = nets
wire_nets x nets (id ∷ ids) = wire_nets x (with_net x nets id.name) ids

abbrev pub driven_nets : Extent → List (Named ScopeNet) → List (NamedValueOf ℕ) → List (Named ScopeNet)
driven_nets x nets [] = nets
driven_nets x nets (w ∷ ws) = driven_nets x (with_net x nets w.id.name) ws

-- one more memory of so many words behind this range
abbrev pub with_memory : Extent → ℕ → List (Named ScopeMemory) → List ℕ → List (Named ScopeMemory)
with_memory x n memories name = added memories name (record { width = net_width x; length = n })

-- a register is a net, or with a range behind its name a memory
abbrev pub with_reg : Extent → Scope → List ℕ → Option (RegTailOf ℕ) → Scope
with_reg x s name None = with_port x s name
with_reg x s name (Some (InitTail e)) = with_port x s name
with_reg x s name (Some (MemoryTail range)) =
    record s { memories = with_memory x (or_most (memory_length (declared_in s) range)) s.memories name }

abbrev pub with_regs : Extent → Scope → List (Reg1Of ℕ) → Scope
with_regs x s [] = s
with_regs x s (g ∷ gs) = with_regs x (with_reg x s g.id.name g.tail) gs

-- with the nets and memories of an item, and past its parameters
abbrev pub with_item : Scope → ItemOf ℕ → Scope
with_item s (WiresItem range ids) = record s { nets = wire_nets (extent_of (declared_in s) range) s.nets ids }
with_item s (DrivenWiresItem range ws) = record s { nets = driven_nets (extent_of (declared_in s) range) s.nets ws }
with_item s (RegsItem range gs) = with_regs (extent_of (declared_in s) range) s gs
with_item s (LocalparamsItem range vs) = record s { declared = after_names s.params s.declared vs }
with_item s item = s

abbrev pub with_items : Scope → List (ItemOf ℕ) → Scope
with_items s [] = s
with_items s (i ∷ is) = with_items (with_item s i) is

-- parameters alone, of which the first k are declared
abbrev pub params_scope : ℕ → List (Named Param) → Scope
params_scope k params = record { params = params; declared = k; nets = []; memories = [] }

-- with the nets and memories of a module; at the end the first k parameters count as declared again
abbrev pub with_places : ModuleOf ℕ → ℕ → List (Named Param) → Scope
with_places m k params = record (with_items (with_ports NoRange (params_scope k params) m.ports) m.items) { declared = k }

-- the scope of a module whose header has these parameters
abbrev pub scope_after : ModuleOf ℕ → List (Named Param) → Scope
scope_after m header = with_places m (length header) (items_params header m.items)

-- the scope of a module of which these parameters are overridden; in it the header's parameters count as declared
abbrev pub scope_with : List (Named Sizes) → ModuleOf ℕ → Scope
scope_with given m = scope_after m (header_params given NoRange [] m.parameters)

-- the scope of an instance with these connections of parameters, whose parent's names these are
abbrev pub scope_of : Readable → List (ConnOf ℕ) → ModuleOf ℕ → Scope
scope_of parent conns m = scope_with (overrides_of parent conns) m

-- the length of a memory that is there
abbrev pub length_in : Option ScopeMemory → ℕ
length_in None = 0
length_in (Some m) = m.length

-- the number of words of the memory at this place
abbrev pub words_at : List (Named ScopeMemory) → ℕ → ℕ
words_at memories k = length_in (slice_get (map (λ (m : Named ScopeMemory). m.value) memories) k)

-- the number of words of all memories
abbrev pub words_of : List (Named ScopeMemory) → ℕ
words_of memories = sum_by (λ (m : Named ScopeMemory). m.value.length) memories
