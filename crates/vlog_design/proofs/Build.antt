-- The design with the parts of a file's instances.
use Rattle.std.proofs.Common.{◌≡◌, ℕ, ◌↔◌, List, [], Option, Some, sym, subst, ◌∙◌}
use Rattle.std.specs.List.{AllZip}
use Rattle.vlog_tree.specs.Tree.{ModuleOf, FileOf}
use Rattle.flat_drive.specs.vlog_elab.Scope.{scope_with}
use Rattle.flat_drive.specs.vlog_elab.Instances.{ModuleInstance, instances}
use Rattle.flat_drive.specs.vlog_elab.Reasons as elab
use Rattle.net_design.specs.declared.design.Port.{Port}
use Rattle.net_design.specs.declared.design.Design.{Design}
use Rattle.flat_drive.specs.flat_parts.Seats.{seats_of}
use Rattle.flat_drive.specs.flat_parts.Nets.{flat_ports}
use Rattle.flat_drive.specs.flat_parts.State.{all_regs, IsRegisterOf}
use Rattle.flat_drivers.specs.Duties.{Does}
use Rattle.flat_drive.specs.flat_parts.Drivers.{all_duties, all_blocks, IsBlockOf}
use Rattle.flat_drive.specs.flat_parts.Built.{IsBuilt, IsClockPort}
use Rattle.flat_drive.specs.flat_parts.Laws.{IsTop, FirstIsTop}
use Rattle.flat_layout.specs.Layout.{AreInstances}
use Rattle.vlog_design.specs.declared.code.Checked.{Checked}
use Rattle.vlog_design.specs.Parts.{AreParts, FirstPorts}
use Rattle.vlog_design.proofs.Top.{top-ports}

-- the place of the clock's port
abbrev pub IsClockOf : FileOf ℕ → List ℕ → Option ℕ → Type 0
IsClockOf file name clock = (top : ModuleOf ℕ) → IsTop file name top → (k : ℕ)
    → (clock ≡ Some k) ↔ IsClockPort file.modules top (flat_ports top (scope_with [] top)) k

pub build : FirstIsTop → (file : FileOf ℕ) (name : List ℕ) (is : List ModuleInstance) (p : Checked) (d : Design)
    → elab.Clear file name → is ≡ instances file name → AreParts is p → AreInstances d.instances is → FirstPorts is d.ports
    → AllZip (IsRegisterOf p.drivers) (all_regs (seats_of is)) d.registers → IsClockOf file name d.clock
    → d.nets ≡ p.nets → d.memories ≡ p.memories → d.drivers ≡ p.drivers → d.blocks ≡ p.blocks
    → (m : ModuleOf ℕ) → IsTop file name m → IsBuilt file.modules m (instances file name) d
build first-is file name is p d clear listed parts those first registers clock nets memories drivers blocks m is-top =
    let ports = top-ports first-is file name m is d.ports clear is-top listed first in
    subst (λ (js : List ModuleInstance). IsBuilt file.modules m js d) listed (record {
      paths = those.same;
      nets = nets ∙ parts.nets;
      memories = memories ∙ parts.memories;
      ports = ports;
      registers = subst (λ ds. AllZip (IsRegisterOf ds) (all_regs (seats_of is)) d.registers) (sym drivers) registers;
      drivers = subst (λ ds. AllZip Does (all_duties (seats_of is)) ds) (sym drivers) parts.drivers;
      blocks = subst (λ bs. AllZip IsBlockOf (all_blocks (seats_of is)) bs) (sym blocks) parts.blocks;
      clock = λ k. subst (λ (ps : List Port). (d.clock ≡ Some k) ↔ IsClockPort file.modules m ps k) (sym ports) (clock m is-top k);
    })
