use Rattle.std.proofs.Common.{◌≡◌, ◌++◌, drop}
use Rattle.vlog_hierarchy.specs.Plain.{plain_path}
use Rattle.vlog_elab.proofs.child.longer_path.Given as goal

abbrev pub invariant-loop-part : goal.invariant-loop-part
invariant-loop-part l = plain_path l.longer ++ plain_path (drop l.part-index l.path) ≡ plain_path l.path
