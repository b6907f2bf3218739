use Rattle.std.proofs.Common.{◌≡◌, ◌++◌, map, drop}
use Rattle.vlog_tree.specs.Plain.{plain_expr}
use Rattle.vlog_driver.proofs.copy.+copies.Given as goal

abbrev pub invariant-copied_exprs-loop-e : goal.invariant-copied_exprs-loop-e
invariant-copied_exprs-loop-e l = map plain_expr l.copies ++ map plain_expr (drop l.e-index l.exprs) ≡ map plain_expr l.exprs
