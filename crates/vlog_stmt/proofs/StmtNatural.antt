-- Without lines the reader reads the same statements, without their lines.
use Rattle.std.proofs.Common.{◌≡◌, ℕ, zero, suc, Bool, Some, List, [], ◌∷◌, ◌++◌, map, refl, ap}
use Rattle.vlog_tree.specs.declared.stmt.AssignOp.{AssignOp}
use Rattle.vlog_tree.specs.declared.terminal.Terminal.TheVariants as t
use Rattle.vlog_tree.specs.Tree.{StmtOf, BeginStmt, CaseStmt, StmtsOf, MoreStmts, stmts_of, ArmOf, ArmsOf, MoreArms, arms_of}
use Rattle.vlog_expr.specs.Marks.{Toks}
use Rattle.vlog_expr.specs.Bare.{forget_all, bare_expr, bare_target}
use Rattle.vlog_expr.specs.Reader.{expr_at, target_at}
use Rattle.vlog_stmt.specs.BareStmt.{bare_stmt, bare_body, bare_else, bare_stmts, bare_arm, bare_arms}
use Rattle.vlog_stmt.specs.StmtReader.{assign_op_at, assign_stmt_at, stmt_at, if_at, body_at, else_at, stmts_at, colon_front, case_at}
use Rattle.vlog_stmt.specs.StmtReader.{arm_at, arms_at}
use Rattle.vlog_stmt.specs.Laws.{BodyLinesDontCount}
use Rattle.vlog_expr.proofs.Natural.{U}
use Rattle.vlog_expr.proofs.TargetNatural.{target_natural}
use Rattle.vlog_stmt.proofs.Steps.{Same, same, both_step, both_or, same_after, same_expr}
use Rattle.vlog_stmt.proofs.ListNatural.{longer, some_same}

abbrev same_op : AssignOp → AssignOp
same_op op = op

abbrev same_bool : Bool → Bool
same_bool b = b

module _ (A : Type 0) where
  bare_listed : (ss : List (StmtOf A)) → stmts_of (map bare_stmt ss) ≡ bare_stmts (stmts_of ss)
  bare_listed [] = refl
  bare_listed (s ∷ ss) = ap (λ (xs : StmtsOf U). MoreStmts (bare_stmt s) xs) (bare_listed ss)

  arms_listed : (xs : List (ArmOf A)) → arms_of (map bare_arm xs) ≡ bare_arms (arms_of xs)
  arms_listed [] = refl
  arms_listed (x ∷ xs) = ap (λ (ys : ArmsOf U). MoreArms (bare_arm x) ys) (arms_listed xs)

  pub same_target : (n : ℕ) (ws : Toks A) → Same bare_target (target_at n (forget_all ws)) (target_at n ws)
  same_target n ws = same (target_natural A n ws)

  op_same : (ws : Toks A) → Same same_op (assign_op_at (forget_all ws)) (assign_op_at ws)
  op_same ws = both_or _ (same_after A t.Equals ws) (both_step _ (same_after A t.LessEquals ws) (λ o. same refl)) (λ o. same refl)

  assign_same : (n : ℕ) (ws : Toks A) → Same bare_stmt (assign_stmt_at n (forget_all ws)) (assign_stmt_at n ws)
  assign_same n ws =
      both_step _ (same_target n ws) (λ x.
      both_step _ (op_same x.1) (λ o.
      both_step _ (same_expr A n o.1) (λ e.
      both_step _ (same_after A t.Semicolon e.1) (λ c. same refl))))

  colon_same : (ws : Toks A) → Same same_bool (colon_front (forget_all ws)) (colon_front ws)
  colon_same ws = both_or _ (same_after A t.Colon ws) (same refl) (λ o. same refl)

  mutual
    stmt_same : (n : ℕ) (ws : Toks A) → Same bare_stmt (stmt_at n (forget_all ws)) (stmt_at n ws)
    stmt_same zero ws = same refl
    stmt_same (suc n) ws =
        both_or _ (same_after A t.Begin ws)
        (both_or _ (same_after A t.If ws)
        (both_or _ (same_after A t.Case ws) (assign_same n ws) (λ o. case_same n o.1))
        (λ o. if_same n o.1))
        (λ o.
        both_step _ (stmts_same n [] o.1) (λ ss.
        same (ap (λ (xs : StmtsOf U). Some (BeginStmt xs, forget_all ss.1)) (bare_listed ss.0))))

    if_same : (n : ℕ) (ws : Toks A) → Same bare_stmt (if_at n (forget_all ws)) (if_at n ws)
    if_same zero ws = same refl
    if_same (suc n) ws =
        both_step _ (same_after A t.ParenOpen ws) (λ o.
        both_step _ (same_expr A n o.1) (λ e.
        both_step _ (same_after A t.ParenClose e.1) (λ c.
        both_step _ (body_same n c.1) (λ b.
        both_step _ (else_same n b.1) (λ x. same refl)))))

    case_same : (n : ℕ) (ws : Toks A) → Same bare_stmt (case_at n (forget_all ws)) (case_at n ws)
    case_same zero ws = same refl
    case_same (suc n) ws =
        both_step _ (same_after A t.ParenOpen ws) (λ o.
        both_step _ (same_expr A n o.1) (λ e.
        both_step _ (same_after A t.ParenClose e.1) (λ c.
        both_step _ (arm_same n c.1) (λ a.
        both_step _ (arms_same n (a.0 ∷ []) a.1) (λ xs.
        same (ap (λ (ys : ArmsOf U). Some (CaseStmt (bare_expr e.0) ys, forget_all xs.1)) (arms_listed xs.0)))))))

    arm_same : (n : ℕ) (ws : Toks A) → Same bare_arm (arm_at n (forget_all ws)) (arm_at n ws)
    arm_same zero ws = same refl
    arm_same (suc n) ws =
        both_or _ (same_after A t.Default ws)
        (both_step _ (some_same A _ _ bare_expr (expr_at n) (expr_at n) (same_expr A n) n ws) (λ ls.
        both_step _ (same_after A t.Colon ls.1) (λ c.
        both_step _ (body_same n c.1) (λ b. same refl))))
        (λ d. both_step _ (colon_same d.1) (λ c. both_step _ (body_same n c.1) (λ b. same refl)))

    arms_same : (n : ℕ) (front : List (ArmOf A)) (ws : Toks A) → Same (map bare_arm) (arms_at n (map bare_arm front) (forget_all ws))
        (arms_at n front ws)
    arms_same zero front ws = same refl
    arms_same (suc n) front ws =
        both_or _ (same_after A t.Endcase ws)
        (both_step _ (arm_same n ws) (λ a. longer (map bare_arm) bare_arm front a.0 (λ ys. arms_at n ys (forget_all a.1))
        (arms_at n (front ++ a.0 ∷ []) a.1) (arms_same n (front ++ a.0 ∷ []) a.1)))
        (λ o. same refl)

    body_same : (n : ℕ) (ws : Toks A) → Same bare_body (body_at n (forget_all ws)) (body_at n ws)
    body_same zero ws = same refl
    body_same (suc n) ws = both_or _ (same_after A t.Semicolon ws) (both_step _ (stmt_same n ws) (λ s. same refl)) (λ o. same refl)

    else_same : (n : ℕ) (ws : Toks A) → Same bare_else (else_at n (forget_all ws)) (else_at n ws)
    else_same zero ws = same refl
    else_same (suc n) ws = both_or _ (same_after A t.Else ws) (same refl) (λ o. both_step _ (body_same n o.1) (λ b. same refl))

    stmts_same : (n : ℕ) (front : List (StmtOf A)) (ws : Toks A) → Same (map bare_stmt) (stmts_at n (map bare_stmt front) (forget_all ws))
        (stmts_at n front ws)
    stmts_same zero front ws = same refl
    stmts_same (suc n) front ws =
        both_or _ (same_after A t.End ws)
        (both_step _ (stmt_same n ws) (λ s. longer (map bare_stmt) bare_stmt front s.0 (λ ys. stmts_at n ys (forget_all s.1))
        (stmts_at n (front ++ s.0 ∷ []) s.1) (stmts_same n (front ++ s.0 ∷ []) s.1)))
        (λ o. same refl)

  pub same_body : (n : ℕ) (ws : Toks A) → Same bare_body (body_at n (forget_all ws)) (body_at n ws)
  same_body n ws = body_same n ws

  pub body_natural : BodyLinesDontCount A
  body_natural n ws = (body_same n ws).is
