use Rattle.std.proofs.Common.{◌≡◌, ◌++◌, drop, map}
use Rattle.vlog_tree.specs.Plain.{plain_target}
use Rattle.vlog_copy.proofs.stmt.+copy_targets.Given as goal

abbrev pub invariant-copy_targets-loop-target : goal.invariant-copy_targets-loop-target
invariant-copy_targets-loop-target l = map plain_target l.copy ++ map plain_target (drop l.target-index l.targets) ≡ map plain_target l.targets
