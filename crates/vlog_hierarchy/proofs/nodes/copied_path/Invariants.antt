use Rattle.std.proofs.Common.{◌≡◌, ◌++◌, drop}
use Rattle.vlog_hierarchy.specs.Plain.{plain_path}
use Rattle.vlog_hierarchy.proofs.nodes.copied_path.Given as goal

abbrev pub invariant-loop-name : goal.invariant-loop-name
invariant-loop-name l = plain_path l.copy ++ plain_path (drop l.name-index l.path) ≡ plain_path l.path
