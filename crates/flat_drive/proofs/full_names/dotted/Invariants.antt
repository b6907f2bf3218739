use Rattle.std.proofs.Common.{◌≡◌, ◌++◌, drop}
use Rattle.flat_parts.specs.vlog_hierarchy.Plain.{plain_path}
use Rattle.flat_drive.specs.Reasons.{dotted}
use Rattle.flat_drive.proofs.full_names.dotted.Given as goal

abbrev pub invariant-loop-part : goal.invariant-loop-part
invariant-loop-part l = l.out ++ dotted (plain_path (drop l.part-index l.path)) l.name ≡ dotted (plain_path l.path) l.name
