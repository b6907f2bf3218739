use Rattle.std.proofs.Common.{◌≡◌, drop}
use Rattle.vlog_tree.specs.Plain.{plain_targets}
use Rattle.vlog_names.specs.Uses.{in_all_driven}
use Rattle.vlog_names.proofs.kinds.targets.+driven.Given as goal

abbrev pub invariant-check_driven_targets-loop-target : goal.invariant-check_driven_targets-loop-target
invariant-check_driven_targets-loop-target l =
    in_all_driven l.names (plain_targets (drop l.target-index l.targets)) ≡ in_all_driven l.names (plain_targets l.targets)
