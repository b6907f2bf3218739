-- What is known of the parts of the flat design of instances while it is made.
use Rattle.std.specs.Prelude.{◌≡◌, ℕ, List, [], ◌∷◌}
use Rattle.std.specs.List.{AllZip}
use Rattle.vlog_tree.specs.Tree.{ModuleOf, FileOf}
use Rattle.flat_drive.specs.vlog_elab.Instances.{ModuleInstance}
use Rattle.net_design.specs.declared.design.Port.{Port}
use Rattle.flat_drivers.specs.Duties.{Does}
use Rattle.flat_drive.specs.flat_parts.Seats.{seats_of}
use Rattle.flat_drive.specs.flat_parts.Nets.{flat_nets, flat_memories, flat_ports}
use Rattle.flat_drive.specs.flat_parts.Laws.{IsTop}
use Rattle.flat_drive.specs.flat_parts.Drivers.{all_duties, all_blocks, IsBlockOf}
use Rattle.vlog_design.specs.declared.code.Checked.{Checked}

pub record AreParts (is : List ModuleInstance) (p : Checked) : Type 0 where
  pub nets : p.nets ≡ flat_nets (seats_of is)
  pub memories : p.memories ≡ flat_memories (seats_of is)
  pub drivers : AllZip Does (all_duties (seats_of is)) p.drivers
  pub blocks : AllZip IsBlockOf (all_blocks (seats_of is)) p.blocks

-- the ports of the first instance
abbrev pub FirstPorts : List ModuleInstance → List Port → Type 0
FirstPorts [] ports = ⊥
FirstPorts (i ∷ is) ports = ports ≡ flat_ports i.tree i.scope

-- the top is declared
abbrev pub HasTop : FileOf ℕ → List ℕ → Type 0
HasTop file name = (m : ModuleOf ℕ) × IsTop file name m
