use Rattle.std.proofs.Common.{◌≡◌, drop, map}
use Rattle.std.specs.List.{flat_map}
use Rattle.vlog_tree.specs.Plain.{plain_expr}
use Rattle.vlog_names.specs.Unknown.{unknown_expr}
use Rattle.vlog_names.proofs.expressions.known_labels.Given as goal

abbrev pub invariant-loop-label : goal.invariant-loop-label
invariant-loop-label l =
    flat_map (unknown_expr l.names) (map plain_expr (drop l.label-index l.labels))
    ≡ flat_map (unknown_expr l.names) (map plain_expr l.labels)
