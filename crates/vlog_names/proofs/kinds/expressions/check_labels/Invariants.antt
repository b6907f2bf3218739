use Rattle.std.proofs.Common.{◌≡◌, drop, map}
use Rattle.std.specs.List.{flat_map}
use Rattle.vlog_tree.specs.Plain.{plain_expr}
use Rattle.vlog_names.specs.Uses.{in_expr}
use Rattle.vlog_names.proofs.kinds.expressions.check_labels.Given as goal

abbrev pub invariant-loop-label : goal.invariant-loop-label
invariant-loop-label l =
    flat_map (in_expr l.names) (map plain_expr (drop l.label-index l.labels)) ≡ flat_map (in_expr l.names) (map plain_expr l.labels)
