use Rattle.std.proofs.Common.{rules, arith, ◌-◌, List, map, sym, ap, ◌∙◌}
use Rattle.vlog_tree.specs.declared.stmt.Stmt.{Stmt}
use Rattle.vlog_tree.specs.declared.stmt.Arm.{Arm}
use Rattle.vlog_tree.specs.Tree.{StmtOf, ArmOf}
use Rattle.vlog_tree.specs.Plain.{plain_stmt, plain_arm}
use Rattle.vlog_expr.specs.Marks.{all_marked}
use Rattle.vlog_stmt.specs.StmtReader.{stmts_at, arms_at}
use Rattle.vlog_stmt.proofs.Maps.{stmts_snoc, arms_snoc}
use Rattle.vlog_stmt.proofs.Turns.{stmts_turn, arms_turn}
use Rattle.vlog_stmt.proofs.stmt.+stmts.Goals as goal

pub stmts_of-loop-left-preserved : goal.stmts_of-loop-left-preserved
stmts_of-loop-left-preserved t c =
    let turn = stmts_turn c.loop-left.left (c.loop-left.left - 1) (map plain_stmt c.loop-left.stmts) (all_marked c.loop-left.rest.now)
    (plain_stmt c.in_ok-stmt-in-None.stmt, all_marked c.in_ok-stmt-in-None.behind.now)
    (omega arith) (search rules) (search rules) in
    let longer = ap (λ (xs : List Stmt). map plain_stmt xs) c.in_ok-push-in-None.ensures.ok
    ∙ stmts_snoc c.loop-left.stmts c.in_ok-stmt-in-None.stmt in (
      omega arith,
      ap (λ (xs : List (StmtOf _)). stmts_at (c.loop-left.left - 1) xs (all_marked c.in_ok-stmt-in-None.behind.now)) longer
          ∙ sym turn ∙ c.loop-left.invariant.1,
    )

pub arms_of-loop-left-preserved : goal.arms_of-loop-left-preserved
arms_of-loop-left-preserved t c =
    let turn = arms_turn c.loop-left.left (c.loop-left.left - 1) (map plain_arm c.loop-left.arms) (all_marked c.loop-left.rest.now)
    (plain_arm c.in_ok-arm-in-None.arm, all_marked c.in_ok-arm-in-None.behind.now)
    (omega arith) (search rules) (search rules) in
    let longer = ap (λ (xs : List Arm). map plain_arm xs) c.in_ok-push-in-None.ensures.ok
    ∙ arms_snoc c.loop-left.arms c.in_ok-arm-in-None.arm in (
      omega arith,
      ap (λ (xs : List (ArmOf _)). arms_at (c.loop-left.left - 1) xs (all_marked c.in_ok-arm-in-None.behind.now)) longer
          ∙ sym turn ∙ c.loop-left.invariant.1,
    )
