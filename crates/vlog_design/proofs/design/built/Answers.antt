use Rattle.std.proofs.Common.{◌≤◌, List, length, refl, sym, ap, subst, ◌∙◌}
use Rattle.std.proofs.lemmas.List.{length-map}
use Rattle.std.specs.List.{AllZip}
use Rattle.vlog_tree.specs.Plain.{plain}
use Rattle.flat_drive.specs.vlog_elab.Plain.{plain_instance, plain_instances}
use Rattle.net_design.specs.declared.design.Driver.{Driver}
use Rattle.flat_drive.specs.flat_parts.Seats.{seats_of}
use Rattle.flat_drive.specs.flat_parts.State.{all_regs, IsRegisterOf}
use Rattle.vlog_design.proofs.Top.{has-top, some-instance}
use Rattle.vlog_design.proofs.Build.{build}
use Rattle.vlog_design.proofs.design.built.Goals as goal

pub returns-clause-top : goal.returns-clause-top
returns-clause-top c =
    has-top (plain c.args.file.now) c.args.top.now c.requires.clear

pub returns-clause-built : goal.returns-clause-built
returns-clause-built c =
    let is = plain_instances c.args.list.now in
    build c.instances_are_paths.ensures.first (plain c.args.file.now) c.args.top.now is c.args.parts (record {
      instances = c.in_ok-instances.instances;
      nets = c.args.parts.nets;
      registers = c.in_ok-registers.registers;
      memories = c.args.parts.memories;
      drivers = c.args.parts.drivers;
      blocks = c.args.parts.blocks;
      ports = c.in_ok-ports.ports;
      clock = c.in_ok-clock.clock;
    }) c.requires.clear c.requires.listed c.requires.parts c.in_ok-instances.ensures c.in_ok-ports.ensures
    (subst (λ (ds : List Driver). AllZip (IsRegisterOf ds) (all_regs (seats_of is)) c.in_ok-registers.registers) c.as_slice.ensures
    c.in_ok-registers.ensures) c.in_ok-clock.ensures refl refl refl refl

pub top_ports-requires : goal.top_ports-requires
top_ports-requires c =
    let is = plain_instances c.args.list.now in
    subst (λ n. 1 ≤ n) (ap length (sym c.requires.listed) ∙ length-map c.args.list.now plain_instance)
    (some-instance c.instances_are_paths.ensures.first (plain c.args.file.now) c.args.top.now c.requires.clear)
