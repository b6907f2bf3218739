use Rattle.std.proofs.Common.{◌≡◌, drop}
use Rattle.vlog_tree.specs.Plain.{plain_targets}
use Rattle.vlog_hierarchy.specs.Clock.{targets_faults}
use Rattle.vlog_hierarchy.proofs.reads.+targets.Given as goal

abbrev pub invariant-check_targets-loop-target : goal.invariant-check_targets-loop-target
invariant-check_targets-loop-target l =
    targets_faults l.marks l.joined (plain_targets (drop l.target-index l.targets))
    ≡ targets_faults l.marks l.joined (plain_targets l.targets)
