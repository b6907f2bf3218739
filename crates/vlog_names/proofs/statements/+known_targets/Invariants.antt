use Rattle.std.proofs.Common.{◌≡◌, drop}
use Rattle.vlog_tree.specs.Plain.{plain_targets}
use Rattle.vlog_names.specs.Unknown.{unknown_targets}
use Rattle.vlog_names.proofs.statements.+known_targets.Given as goal

abbrev pub invariant-known_targets-loop-target : goal.invariant-known_targets-loop-target
invariant-known_targets-loop-target l =
    unknown_targets l.names (plain_targets (drop l.target-index l.targets)) ≡ unknown_targets l.names (plain_targets l.targets)
