use Rattle.std.proofs.Common.{◌≡◌, ◌++◌, drop}
use Rattle.std.specs.List.{flat_map}
use Rattle.flat_parts.specs.vlog_elab.Plain.{plain_instances}
use Rattle.flat_parts.specs.Marks.{instance_marks}
use Rattle.flat_registers.proofs.marks.reg_marks.Given as goal

abbrev pub invariant-loop-instance : goal.invariant-loop-instance
invariant-loop-instance l =
    l.out ++ flat_map instance_marks (plain_instances (drop l.instance-index l.list)) ≡ flat_map instance_marks (plain_instances l.list)
