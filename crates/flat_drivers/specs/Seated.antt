-- The instances of the code with what their modules declare and the places where they stand in the flat design.
use Rattle.std.specs.Prelude.{◌≡◌, List, map, true, []}
use Rattle.std.specs.List.{AllByRecursion}
use Rattle.flat_parts.specs.Instances.{HaveOwnPaths, AreDeclaredIn}
use Rattle.flat_parts.specs.vlog_size.Names.{is_lawful_scope}
use Rattle.flat_parts.specs.vlog_elab.Instances.{ModuleInstance}
use Rattle.flat_parts.specs.vlog_elab.Plain.{plain_instances}
use Rattle.flat_parts.specs.vlog_elab.Reasons.{instance_consts, instance_widths}
use Rattle.flat_parts.specs.Seats.{Seat, base_of, seats_of}
use Rattle.flat_drivers.specs.declared.flat.Flat.{Flat}

-- its scope is lawful, and E5 and E6 find nothing in it
pub record IsFaultlessInstance (i : ModuleInstance) : Type 0 where
  pub lawful : is_lawful_scope i.scope ≡ true
  pub consts : instance_consts i ≡ []
  pub widths : instance_widths i ≡ []

abbrev pub AreFaultlessInstances : List ModuleInstance → Type 0
AreFaultlessInstances is = AllByRecursion IsFaultlessInstance is

-- the instances
abbrev pub instances_in : Flat → List ModuleInstance
instances_in f = plain_instances f.list.now

abbrev pub seats_in : Flat → List Seat
seats_in f = seats_of (instances_in f)

pub record IsFlat (f : Flat) : Type 0 where
  pub bases : f.bases.now ≡ map base_of (seats_in f)
  pub paths : HaveOwnPaths (instances_in f)
  pub names : AreDeclaredIn f.modules.now (instances_in f)
  pub faultless : AreFaultlessInstances (instances_in f)
