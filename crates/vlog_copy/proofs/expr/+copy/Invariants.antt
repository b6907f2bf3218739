use Rattle.std.proofs.Common.{◌≡◌, ◌++◌, drop, map}
use Rattle.vlog_tree.specs.Plain.{plain_expr}
use Rattle.vlog_copy.proofs.expr.+copy.Given as goal

abbrev pub invariant-copy_exprs-loop-e : goal.invariant-copy_exprs-loop-e
invariant-copy_exprs-loop-e l = map plain_expr l.copy ++ map plain_expr (drop l.e-index l.exprs) ≡ map plain_expr l.exprs
