-- The variants that hold lists as plain data.
use Rattle.std.proofs.Common.{◌≡◌, ℕ, List, ap, refl, ◌∙◌}
use Rattle.std.specs.Prelude.{Box}
use Rattle.std.specs.Global.{Global}
use Rattle.vlog_tree.specs.Tree.{MoreExprs, ConcatPrim, RepeatPrim, MoreTargets, ConcatTarget, MoreStmts, BeginStmt, MoreArms, CaseStmt}
use Rattle.vlog_tree.specs.Plain.{plain_expr, plain_prim, plain_row, plain_exprs, plain_target, plain_target_row, plain_targets}
use Rattle.vlog_tree.specs.Plain.{plain_stmt}
use Rattle.vlog_tree.specs.Plain.{plain_stmt_row, plain_stmts, plain_arm, plain_arm_row, plain_arms}
use Rattle.vlog_tree.specs.declared.expr.Expr.{Expr}
use Rattle.vlog_tree.specs.declared.expr.Operand as prim
use Rattle.vlog_tree.specs.declared.expr.Expr.TheBlock.{hidden-the_row-Expr-0}
use Rattle.vlog_tree.specs.declared.stmt.Target as target
use Rattle.vlog_tree.specs.declared.stmt.Target.TheBlock.{hidden-the_row-Target-0}
use Rattle.vlog_tree.specs.declared.stmt.Stmt as stmt
use Rattle.vlog_tree.specs.declared.stmt.Arm.{Arm}
use Rattle.vlog_tree.specs.declared.stmt.Arm.TheBlock.{hidden-the_row-Stmt-0, hidden-the_row-Arm-1}

expr_items : {n : _} → (row : prim.Row_of-Expr n) → plain_row row ≡ plain_exprs (prim.items-the_row-Expr n row)
expr_items prim.end_of-Expr = refl
expr_items (prim.more_of-Expr e row) = ap (MoreExprs (plain_expr e)) (expr_items row)

pub exprs_hidden : (es : List Expr) → plain_row (hidden-the_row-Expr-0 es) ≡ plain_exprs es
exprs_hidden es = expr_items (hidden-the_row-Expr-0 es) ∙ ap plain_exprs (prim.items_hidden-the_row-Expr-0 es)

pub plain_concat : (p : prim.Operand) (line : ℕ) (es : List Expr) → p ≡ prim.Concat line es → plain_prim p
    ≡ ConcatPrim line (plain_exprs es)
plain_concat p line es is = ap plain_prim is ∙ ap (ConcatPrim line) (exprs_hidden es)

pub plain_repeat : (p : prim.Operand) (line : ℕ) (count : Box Expr Global) (es : List Expr) → p ≡ prim.Repeat line count es
    → plain_prim p ≡ RepeatPrim line (plain_expr count.value) (plain_exprs es)
plain_repeat p line count es is = ap plain_prim is ∙ ap (RepeatPrim line (plain_expr count.value)) (exprs_hidden es)

target_items : {n : _} → (row : target.Row_of-Target n) → plain_target_row row ≡ plain_targets (target.items-the_row-Target n row)
target_items target.end_of-Target = refl
target_items (target.more_of-Target t row) = ap (MoreTargets (plain_target t)) (target_items row)

pub targets_hidden : (ts : List target.Target) → plain_target_row (hidden-the_row-Target-0 ts) ≡ plain_targets ts
targets_hidden ts = target_items (hidden-the_row-Target-0 ts) ∙ ap plain_targets (target.items_hidden-the_row-Target-0 ts)

pub plain_concat_target : (t : target.Target) (line : ℕ) (ts : List target.Target) → t ≡ target.Concat line ts → plain_target t
    ≡ ConcatTarget line (plain_targets ts)
plain_concat_target t line ts is = ap plain_target is ∙ ap (ConcatTarget line) (targets_hidden ts)

stmt_items : {n : _} → (row : stmt.Row_of-Stmt n) → plain_stmt_row row ≡ plain_stmts (stmt.items-the_row-Stmt n row)
stmt_items stmt.end_of-Stmt = refl
stmt_items (stmt.more_of-Stmt s row) = ap (MoreStmts (plain_stmt s)) (stmt_items row)

pub stmts_hidden : (ss : List stmt.Stmt) → plain_stmt_row (hidden-the_row-Stmt-0 ss) ≡ plain_stmts ss
stmts_hidden ss = stmt_items (hidden-the_row-Stmt-0 ss) ∙ ap plain_stmts (stmt.items_hidden-the_row-Stmt-0 ss)

pub plain_begin : (s : stmt.Stmt) (ss : List stmt.Stmt) → s ≡ stmt.Begin ss → plain_stmt s ≡ BeginStmt (plain_stmts ss)
plain_begin s ss is = ap plain_stmt is ∙ ap BeginStmt (stmts_hidden ss)

arm_items : {n : _} → (row : stmt.Row_of-Arm n) → plain_arm_row row ≡ plain_arms (stmt.items-the_row-Arm n row)
arm_items stmt.end_of-Arm = refl
arm_items (stmt.more_of-Arm a row) = ap (MoreArms (plain_arm a)) (arm_items row)

pub arms_hidden : (xs : List Arm) → plain_arm_row (hidden-the_row-Arm-1 xs) ≡ plain_arms xs
arms_hidden xs = arm_items (hidden-the_row-Arm-1 xs) ∙ ap plain_arms (stmt.items_hidden-the_row-Arm-1 xs)

pub plain_case : (s : stmt.Stmt) (e : Expr) (xs : List Arm) → s ≡ stmt.Case e xs → plain_stmt s
    ≡ CaseStmt (plain_expr e) (plain_arms xs)
plain_case s e xs is = ap plain_stmt is ∙ ap (CaseStmt (plain_expr e)) (arms_hidden xs)
