use Rattle.std.proofs.Common.{◌≡◌, drop}
use Rattle.std.specs.List.{flat_map}
use Rattle.flat_parts.specs.vlog_elab.Plain.{plain_instances}
use Rattle.flat_drive.specs.Reasons.{instance_memories, text_at}
use Rattle.flat_drive.proofs.full_names.memory_name.Given as goal

abbrev pub invariant-loop-instance : goal.invariant-loop-instance
invariant-loop-instance l = text_at (flat_map instance_memories (plain_instances (drop l.instance-index l.list))) l.left
    ≡ text_at (flat_map instance_memories (plain_instances l.list)) l.memory
