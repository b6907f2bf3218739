use Rattle.std.proofs.Common.{◌≡◌, drop}
use Rattle.vlog_tree.specs.Plain.{plain_exprs}
use Rattle.vlog_names.specs.Selects.{are_wire_targets}
use Rattle.vlog_names.proofs.kinds.targets.+wire_targets.Given as goal

abbrev pub invariant-are_wire_targets-loop-e : goal.invariant-are_wire_targets-loop-e
invariant-are_wire_targets-loop-e l =
    are_wire_targets l.names (plain_exprs (drop l.e-index l.exprs)) ≡ are_wire_targets l.names (plain_exprs l.exprs)
