-- The flat design that has the parts of a file's instances.
use Rattle.std.specs.Prelude.{◌≡◌, ℕ, ◌↔◌, Some, List, [], map, slice_get}
use Rattle.std.specs.List.{AllZip}
use Rattle.vlog_tree.specs.Tree.{ModuleOf}
use Rattle.vlog_elab.specs.vlog_scope.Scope.{scope_with}
use Rattle.net_design.specs.declared.design.Port.{Port}
use Rattle.net_design.specs.declared.design.Design.{Design}
use Rattle.net_design.specs.Names.{paths}
use Rattle.vlog_elab.specs.Instances.{ModuleInstance}
use Rattle.vlog_driver.specs.Names.{Name}
use Rattle.vlog_driver.specs.Settled.{IsClock}
use Rattle.vlog_driver.specs.Duties.{Does}
use Rattle.flat_parts.specs.Seats.{seats_of}
use Rattle.flat_parts.specs.Nets.{flat_nets, flat_memories, flat_ports}
use Rattle.flat_parts.specs.Drivers.{all_duties, all_blocks, IsBlockOf}
use Rattle.flat_parts.specs.State.{all_regs, IsRegisterOf}

-- port k has the name of a clock
abbrev pub IsClockPort : List (ModuleOf ℕ) → ModuleOf ℕ → List Port → ℕ → Type 0
IsClockPort file top ports k =
    (x : Name) × (slice_get (map (λ (p : Port). p.name) ports) k ≡ Some x) × IsClock file top x

-- a design with the parts of these instances, of which the first is the top
pub record IsBuilt (file : List (ModuleOf ℕ)) (top : ModuleOf ℕ) (is : List ModuleInstance) (d : Design) : Type 0 where
  pub paths : paths d.instances ≡ map (λ (i : ModuleInstance). i.path) is
  pub nets : d.nets ≡ flat_nets (seats_of is)
  pub memories : d.memories ≡ flat_memories (seats_of is)
  pub ports : d.ports ≡ flat_ports top (scope_with [] top)
  pub registers : AllZip (IsRegisterOf d.drivers) (all_regs (seats_of is)) d.registers
  pub drivers : AllZip Does (all_duties (seats_of is)) d.drivers
  pub blocks : AllZip IsBlockOf (all_blocks (seats_of is)) d.blocks
  pub clock : (k : ℕ) → (d.clock ≡ Some k) ↔ IsClockPort file top d.ports k
