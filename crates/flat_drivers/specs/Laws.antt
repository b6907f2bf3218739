-- Laws of the instances of a file.
use Rattle.std.specs.Prelude.{◌≡◌, ℕ, List, []}
use Rattle.std.specs.List.{flat_map}
use Rattle.flat_parts.specs.Instances.{AreDeclaredIn}
use Rattle.vlog_tree.specs.Tree.{FileOf}
use Rattle.flat_parts.specs.vlog_names.Entries.{modules_of}
use Rattle.flat_parts.specs.vlog_elab.Instances.{instances}
use Rattle.flat_parts.specs.vlog_elab.Reasons.{instance_consts, instance_widths}
use Rattle.flat_drivers.specs.Seated.{AreFaultlessInstances}

-- the file's table has what each instance's module declares
abbrev pub InstancesAreDeclared : Type 0
InstancesAreDeclared = (file : FileOf ℕ) (name : List ℕ) → AreDeclaredIn (modules_of file) (instances file name)

-- where E5 and E6 find nothing in any instance, each has a lawful scope
abbrev pub InstancesAreFaultless : Type 0
InstancesAreFaultless = (file : FileOf ℕ) (name : List ℕ) → flat_map instance_consts (instances file name) ≡ []
    → flat_map instance_widths (instances file name) ≡ [] → AreFaultlessInstances (instances file name)
