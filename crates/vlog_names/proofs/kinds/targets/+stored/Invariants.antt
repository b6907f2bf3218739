use Rattle.std.proofs.Common.{◌≡◌, drop}
use Rattle.vlog_tree.specs.Plain.{plain_targets}
use Rattle.vlog_names.specs.Uses.{in_all_stored}
use Rattle.vlog_names.proofs.kinds.targets.+stored.Given as goal

abbrev pub invariant-check_stored_targets-loop-target : goal.invariant-check_stored_targets-loop-target
invariant-check_stored_targets-loop-target l =
    in_all_stored l.is_clocked l.names (plain_targets (drop l.target-index l.targets))
    ≡ in_all_stored l.is_clocked l.names (plain_targets l.targets)
