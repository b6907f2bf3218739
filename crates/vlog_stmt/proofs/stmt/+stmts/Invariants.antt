use Rattle.std.proofs.Common.{◌≡◌, ◌≤◌, ◌+◌, ◌*◌, [], map}
use Rattle.vlog_tree.specs.Plain.{plain_stmt, plain_arm}
use Rattle.vlog_expr.specs.Marks.{all_marked}
use Rattle.vlog_stmt.specs.StmtReader.{stmts_at, arms_at}
use Rattle.vlog_stmt.proofs.stmt.+stmts.Given as goal

abbrev pub decreases-stmt_of : goal.decreases-stmt_of
decreases-stmt_of l = 3 * l.fuel

abbrev pub decreases-if_of : goal.decreases-if_of
decreases-if_of l = 3 * l.fuel

abbrev pub decreases-rest_of_if : goal.decreases-rest_of_if
decreases-rest_of_if l = 3 * l.fuel

abbrev pub decreases-body_of : goal.decreases-body_of
decreases-body_of l = 3 * l.fuel

abbrev pub decreases-case_of : goal.decreases-case_of
decreases-case_of l = 3 * l.fuel

abbrev pub decreases-rest_of_case : goal.decreases-rest_of_case
decreases-rest_of_case l = 3 * l.fuel + 2

abbrev pub decreases-arm_of : goal.decreases-arm_of
decreases-arm_of l = 3 * l.fuel

abbrev pub decreases-arms_of : goal.decreases-arms_of
decreases-arms_of l = 3 * l.fuel + 1

abbrev pub decreases-arms_of-loop-left : goal.decreases-arms_of-loop-left
decreases-arms_of-loop-left l = l.left

abbrev pub invariant-arms_of-loop-left : goal.invariant-arms_of-loop-left
invariant-arms_of-loop-left l =
    (l.left ≤ l.fn.fuel) × (arms_at l.left (map plain_arm l.arms) (all_marked l.rest)
    ≡ arms_at l.fn.fuel (map plain_arm l.fn.arms) (all_marked l.fn.tokens))

abbrev pub decreases-stmts_of : goal.decreases-stmts_of
decreases-stmts_of l = 3 * l.fuel + 1

abbrev pub decreases-stmts_of-loop-left : goal.decreases-stmts_of-loop-left
decreases-stmts_of-loop-left l = l.left

abbrev pub invariant-stmts_of-loop-left : goal.invariant-stmts_of-loop-left
invariant-stmts_of-loop-left l =
    (l.left ≤ l.fn.fuel) × (stmts_at l.left (map plain_stmt l.stmts) (all_marked l.rest) ≡ stmts_at l.fn.fuel [] (all_marked l.fn.tokens))
