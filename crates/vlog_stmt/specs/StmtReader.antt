-- The reader of statements, rule by rule of the grammar. Each call has one less of fuel than its caller.
use Rattle.std.specs.Prelude.{ℕ, zero, suc, Bool, true, false, List, [], ◌∷◌, ◌++◌, None, Some}
use Rattle.vlog_tree.specs.declared.stmt.AssignOp.{AssignOp}
use Rattle.vlog_tree.specs.declared.stmt.AssignOp.TheVariants as assign
use Rattle.vlog_tree.specs.declared.terminal.Terminal.TheVariants as t
use Rattle.vlog_tree.specs.Tree.{StmtOf, BeginStmt, IfStmt, AssignStmt, BodyOf, StmtBody, EmptyBody, ElseOf, NoElse, Else, stmts_of}
use Rattle.vlog_tree.specs.Tree.{CaseStmt, ArmOf, LabelsArm, DefaultArm, arms_of}
use Rattle.vlog_expr.specs.Marks.{Toks, after}
use Rattle.vlog_expr.specs.Reader.{◌>>=◌, found_or, Read, expr_at, target_at, some_at}

-- "=" | "<="
abbrev pub assign_op_at : {A : Type 0} → Toks A → Read A AssignOp
assign_op_at ws = found_or (after t.Equals ws) (after t.LessEquals ws >>= λ o. Some (assign.Nonblocking, o.1))
    (λ o. Some (assign.Blocking, o.1))

-- target ( "=" | "<=" ) expr ";"
abbrev pub assign_stmt_at : {A : Type 0} → ℕ → Toks A → Read A (StmtOf A)
assign_stmt_at n ws = target_at n ws >>= λ x. assign_op_at x.1 >>= λ o. expr_at n o.1 >>= λ e. after t.Semicolon e.1
    >>= λ c. Some (AssignStmt x.0 o.0 e.0, c.1)

-- [ ":" ]
abbrev pub colon_front : {A : Type 0} → Toks A → Read A Bool
colon_front ws = found_or (after t.Colon ws) (Some (false, ws)) (λ o. Some (true, o.1))

abbrev mutual
  pub stmt_at : {A : Type 0} → ℕ → Toks A → Read A (StmtOf A)
  stmt_at zero ws = None
  stmt_at (suc n) ws =
      found_or (after t.Begin ws) (found_or (after t.If ws) (found_or (after t.Case ws) (assign_stmt_at n ws) (λ o. case_at n o.1))
      (λ o. if_at n o.1))
      (λ o. stmts_at n [] o.1 >>= λ ss. Some (BeginStmt (stmts_of ss.0), ss.1))

  -- "(" expr ")" body [ "else" body ]
  pub if_at : {A : Type 0} → ℕ → Toks A → Read A (StmtOf A)
  if_at zero ws = None
  if_at (suc n) ws = after t.ParenOpen ws >>= λ o. expr_at n o.1 >>= λ e. after t.ParenClose e.1 >>= λ c. body_at n c.1
      >>= λ b. else_at n b.1 >>= λ x. Some (IfStmt e.0 b.0 x.0, x.1)

  -- "(" expr ")" arm { arm } "endcase"
  pub case_at : {A : Type 0} → ℕ → Toks A → Read A (StmtOf A)
  case_at zero ws = None
  case_at (suc n) ws = after t.ParenOpen ws >>= λ o. expr_at n o.1 >>= λ e. after t.ParenClose e.1 >>= λ c. arm_at n c.1
      >>= λ a. arms_at n (a.0 ∷ []) a.1 >>= λ xs. Some (CaseStmt e.0 (arms_of xs.0), xs.1)

  -- expr { "," expr } ":" body | "default" [":"] body
  pub arm_at : {A : Type 0} → ℕ → Toks A → Read A (ArmOf A)
  arm_at zero ws = None
  arm_at (suc n) ws =
      found_or (after t.Default ws) (some_at (expr_at n) n ws >>= λ ls. after t.Colon ls.1 >>= λ c. body_at n c.1
      >>= λ b. Some (LabelsArm ls.0 b.0, b.1)) (λ d. colon_front d.1 >>= λ c. body_at n c.1 >>= λ b. Some (DefaultArm d.0 c.0 b.0, b.1))

  -- { arm } "endcase" behind the arms so far
  pub arms_at : {A : Type 0} → ℕ → List (ArmOf A) → Toks A → Read A (List (ArmOf A))
  arms_at zero front ws = None
  arms_at (suc n) front ws = found_or (after t.Endcase ws) (arm_at n ws >>= λ a. arms_at n (front ++ a.0 ∷ []) a.1) (λ o. Some (front, o.1))

  -- stmt | ";"
  pub body_at : {A : Type 0} → ℕ → Toks A → Read A (BodyOf A)
  body_at zero ws = None
  body_at (suc n) ws = found_or (after t.Semicolon ws) (stmt_at n ws >>= λ s. Some (StmtBody s.0, s.1)) (λ o. Some (EmptyBody, o.1))

  -- [ "else" body ]
  pub else_at : {A : Type 0} → ℕ → Toks A → Read A (ElseOf A)
  else_at zero ws = None
  else_at (suc n) ws = found_or (after t.Else ws) (Some (NoElse, ws)) (λ o. body_at n o.1 >>= λ b. Some (Else b.0, b.1))

  -- { stmt } "end" behind the statements so far
  pub stmts_at : {A : Type 0} → ℕ → List (StmtOf A) → Toks A → Read A (List (StmtOf A))
  stmts_at zero front ws = None
  stmts_at (suc n) front ws = found_or (after t.End ws) (stmt_at n ws >>= λ s. stmts_at n (front ++ s.0 ∷ []) s.1) (λ o. Some (front, o.1))
