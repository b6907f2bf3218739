-- The nets, memories and ports of the flat design (IEEE 1364-2005, 4.2, 4.9 and 12.3; this project's profile).
use Rattle.std.specs.Prelude.{ℕ, ◌+◌, if◌then◌else◌, List, [], ◌∷◌, map}
use Rattle.std.specs.List.{flat_map}
use Rattle.vlog_tree.specs.Tree.{ModuleOf}
use Rattle.vlog_elab.specs.vlog_size.declared.scope.ScopeNet.{ScopeNet}
use Rattle.vlog_elab.specs.vlog_size.declared.scope.ScopeMemory.{ScopeMemory}
use Rattle.vlog_elab.specs.vlog_size.declared.scope.Scope.{Scope}
use Rattle.vlog_elab.specs.vlog_size.Table.{Named, value_of}
use Rattle.vlog_elab.specs.vlog_names.declared.declaration.Declaration.{Declaration}
use Rattle.vlog_elab.specs.vlog_names.declared.declaration.Declaration.TheVariants as d
use Rattle.vlog_elab.specs.vlog_names.Entries.{port_entries, no_port}
use Rattle.net_design.specs.declared.design.Net.{Net}
use Rattle.net_design.specs.declared.design.DesignMemory.{DesignMemory}
use Rattle.net_design.specs.declared.design.Port.{Port}
use Rattle.net_design.specs.declared.design.Direction.{Direction}
use Rattle.net_design.specs.declared.design.Direction.TheVariants.{Input, Output}
use Rattle.vlog_driver.specs.Settled.{is_input}
use Rattle.vlog_driver.specs.Next.{net_width}
use Rattle.flat_parts.specs.Seats.{Seat}

-- ---- nets

abbrev pub net_of : ℕ → Named ScopeNet → Net
net_of number n = record { instance = number; name = n.name; width = n.value.width }

abbrev pub seat_nets : Seat → List Net
seat_nets x = map (net_of x.number) x.instance.scope.nets

unfoldable pub flat_nets : List Seat → List Net
flat_nets xs = flat_map seat_nets xs

-- ---- memories, each behind the words of those before it

abbrev pub memories_from : ℕ → ℕ → List (Named ScopeMemory) → List DesignMemory
memories_from number word [] = []
memories_from number word (m ∷ ms) =
    record { instance = number; name = m.name; width = m.value.width; room = record { first = word; length = m.value.length } }
    ∷ memories_from number (word + m.value.length) ms

abbrev pub seat_memories : Seat → List DesignMemory
seat_memories x = memories_from x.number x.base.word x.instance.scope.memories

unfoldable pub flat_memories : List Seat → List DesignMemory
flat_memories xs = flat_map seat_memories xs

-- ---- the ports of the top

abbrev pub direction_of : Declaration → Direction
direction_of what = if is_input what then Input else Output

abbrev pub port_of : Scope → Named Declaration → Port
port_of s p = record { name = p.name; direction = direction_of p.value; width = net_width (value_of s.nets p.name) }

-- of a module with this scope
abbrev pub flat_ports : ModuleOf ℕ → Scope → List Port
flat_ports m s = map (port_of s) (port_entries no_port m.ports)
