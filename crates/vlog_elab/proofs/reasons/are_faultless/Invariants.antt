use Rattle.std.proofs.Common.{◌≡◌, drop}
use Rattle.std.specs.List.{flat_map}
use Rattle.vlog_elab.specs.Plain.{plain_instances}
use Rattle.vlog_elab.specs.Reasons.{instance_consts, instance_widths}
use Rattle.vlog_elab.proofs.reasons.are_faultless.Given as goal

abbrev pub invariant-loop-instance : goal.invariant-loop-instance
invariant-loop-instance l = record {
  consts : flat_map instance_consts (plain_instances (drop l.instance-index l.list)) ≡ flat_map instance_consts (plain_instances l.list);
  widths : flat_map instance_widths (plain_instances (drop l.instance-index l.list)) ≡ flat_map instance_widths (plain_instances l.list);
}
