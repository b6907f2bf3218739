use Rattle.std.proofs.Common.{◌≡◌, drop, map}
use Rattle.std.specs.List.{flat_map}
use Rattle.vlog_tree.specs.Plain.{plain_expr}
use Rattle.vlog_size.specs.Names.{readable_in}
use Rattle.vlog_scope.specs.Faults.{expr_faults}
use Rattle.vlog_scope.proofs.expressions.exprs_fault.Given as goal

abbrev pub invariant-loop-e : goal.invariant-loop-e
invariant-loop-e l = flat_map (expr_faults l.kind (readable_in l.view)) (map plain_expr (drop l.e-index l.list))
    ≡ flat_map (expr_faults l.kind (readable_in l.view)) (map plain_expr l.list)
