use Rattle.std.proofs.Common.{◌≡◌, take}
use Rattle.flat_parts.specs.vlog_hierarchy.Plain.{plain_path}
use Rattle.flat_layout.proofs.instance.begins_with.Given as goal

abbrev pub invariant-loop-place : goal.invariant-loop-place
invariant-loop-place l = take l.place (plain_path l.path) ≡ take l.place (plain_path l.front)
