-- What is spelled is read: statements and bodies of good shape.
use Rattle.std.proofs.Common.{◌≡◌, ℕ, zero, suc, ◌+◌, ◌<◌, ◌≤◌, Bool, true, false, None, Some, List, [], ◌∷◌, ◌++◌, length, sym}
use Rattle.std.proofs.Common.{refl, ap, ◌∙◌}
use Rattle.std.proofs.Common.{arith, append_assoc, append-nil, length-append}
use Rattle.std.proofs.lemmas.Bool.{true≢false}
use Rattle.vlog_tree.specs.declared.stmt.AssignOp.{AssignOp}
use Rattle.vlog_tree.specs.declared.stmt.AssignOp.TheVariants as assign
use Rattle.vlog_tree.specs.declared.terminal.Terminal.TheVariants as t
use Rattle.vlog_tree.specs.Words.{WordOf, Fixed}
use Rattle.vlog_tree.specs.Tree.{ExprOf, RefWith, TargetOf, RefTarget, ConcatTarget, StmtOf, BeginStmt, IfStmt, AssignStmt, BodyOf}
use Rattle.vlog_tree.specs.Tree.{StmtBody, EmptyBody, ElseOf, NoElse, Else, StmtsOf, NoStmts, MoreStmts, stmts_of}
use Rattle.vlog_tree.specs.Spelling.{assign_terminal, expr_words, target_words, stmt_words, body_words, else_words, stmts_words}
use Rattle.vlog_tree.specs.Shape.{IsGoodExpr, IsGoodTarget, is_open, is_open_body, is_open_else, IsShut, IsGoodStmt, IsGoodBody}
use Rattle.vlog_tree.specs.Shape.{IsGoodElse}
use Rattle.vlog_tree.specs.Shape.{AreGoodStmts}
use Rattle.vlog_expr.specs.Marks.{Toks, spelled, spell, after}
use Rattle.vlog_tree.specs.declared.terminal.Terminal.{Terminal}
use Rattle.vlog_tree.specs.Tree.{CaseStmt, ArmOf, LabelsArm, DefaultArm, ArmsOf, NoArms, MoreArms, arms_of}
use Rattle.vlog_tree.specs.Spelling.{arm_words, arms_words, after_commas, with_commas}
use Rattle.vlog_tree.specs.Shape.{AreSomeGood, IsGoodArm, AreAllGoodArms}
use Rattle.vlog_expr.specs.Reader.{expr_at, target_at, some_at, fuel_for}
use Rattle.vlog_stmt.specs.StmtReader.{assign_op_at, assign_stmt_at, stmt_at, body_at, else_at, stmts_at, arm_at, arms_at}
use Rattle.vlog_expr.proofs.Spelled.{size, spell_append, ends_paren, expr_read}
use Rattle.vlog_expr.proofs.TargetSpelled.{target_read}
use Rattle.vlog_stmt.proofs.Steps.{step, skipped}
use Rattle.vlog_stmt.proofs.Starts.{NoStart, expr_start, reserved_start}
use Rattle.vlog_stmt.proofs.ListSpelled.{ends_semicolon, parts_colon, some_read, exprs_read}

module _ (A : Type 0) (blank : A) where
  abbrev StmtClaim : StmtOf A → Type 0
  StmtClaim s = (n : ℕ) (r : Toks A) → (is_open s ≡ true → after t.Else r ≡ None) → size A blank (stmt_words s) ≤ n
      → stmt_at n (spell blank (stmt_words s) r) ≡ Some (s, r)

  abbrev BodyClaim : BodyOf A → Type 0
  BodyClaim b = (n : ℕ) (r : Toks A) → (is_open_body b ≡ true → after t.Else r ≡ None) → size A blank (body_words b) + 2 ≤ n
      → body_at n (spell blank (body_words b) r) ≡ Some (b, r)

  abbrev ElseClaim : ElseOf A → Type 0
  ElseClaim o = (n : ℕ) (r : Toks A) → (is_open_else o ≡ true → after t.Else r ≡ None) → size A blank (else_words o) + 1 ≤ n
      → else_at n (spell blank (else_words o) r) ≡ Some (o, r)

  abbrev shut : Toks A → Toks A
  shut r = spelled blank (Fixed t.End) ∷ r

  abbrev list_of : StmtsOf A → List (StmtOf A)
  list_of NoStmts = []
  list_of (MoreStmts s ss) = s ∷ list_of ss

  listed : (ss : StmtsOf A) → stmts_of (list_of ss) ≡ ss
  listed NoStmts = refl
  listed (MoreStmts s ss) = ap (MoreStmts s) (listed ss)

  abbrev StmtsClaim : StmtsOf A → Type 0
  StmtsClaim ss = (n : ℕ) (front : List (StmtOf A)) (r : Toks A) → size A blank (stmts_words ss) + 1 ≤ n
      → stmts_at n front (spell blank (stmts_words ss) (shut r)) ≡ Some (front ++ list_of ss, r)

  -- no statement begins with `else`, `end` or `;`
  no_else : (s : StmtOf A) (r : Toks A) → after t.Else (spell blank (stmt_words s) r) ≡ None
  no_else (BeginStmt ss) r = refl
  no_else (IfStmt condition b other) r = refl
  no_else (CaseStmt e xs) r = refl
  no_else (AssignStmt (RefTarget (RefWith id index last)) op value) r = refl
  no_else (AssignStmt (ConcatTarget line xs) op value) r = refl

  no_end : (s : StmtOf A) (r : Toks A) → after t.End (spell blank (stmt_words s) r) ≡ None
  no_end (BeginStmt ss) r = refl
  no_end (IfStmt condition b other) r = refl
  no_end (CaseStmt e xs) r = refl
  no_end (AssignStmt (RefTarget (RefWith id index last)) op value) r = refl
  no_end (AssignStmt (ConcatTarget line xs) op value) r = refl

  no_semicolon : (s : StmtOf A) (r : Toks A) → after t.Semicolon (spell blank (stmt_words s) r) ≡ None
  no_semicolon (BeginStmt ss) r = refl
  no_semicolon (IfStmt condition b other) r = refl
  no_semicolon (CaseStmt e xs) r = refl
  no_semicolon (AssignStmt (RefTarget (RefWith id index last)) op value) r = refl
  no_semicolon (AssignStmt (ConcatTarget line xs) op value) r = refl

  no_colon : (b : BodyOf A) (r : Toks A) → after t.Colon (spell blank (body_words b) r) ≡ None
  no_colon EmptyBody r = refl
  no_colon (StmtBody (BeginStmt ss)) r = refl
  no_colon (StmtBody (IfStmt condition b other)) r = refl
  no_colon (StmtBody (CaseStmt e xs)) r = refl
  no_colon (StmtBody (AssignStmt (RefTarget (RefWith id index last)) op value)) r = refl
  no_colon (StmtBody (AssignStmt (ConcatTarget line xs) op value)) r = refl

  no_else_in : (ss : StmtsOf A) (r : Toks A) → after t.Else (spell blank (stmts_words ss) (shut r)) ≡ None
  no_else_in NoStmts r = refl
  no_else_in (MoreStmts s ss) r = ap (after t.Else) (spell_append A blank (stmt_words s) (stmts_words ss) (shut r))
      ∙ no_else s (spell blank (stmts_words ss) (shut r))

  no_begin : (x : TargetOf A) (r : Toks A) → after t.Begin (spell blank (target_words x) r) ≡ None
  no_begin (RefTarget (RefWith id index last)) r = refl
  no_begin (ConcatTarget line xs) r = refl

  no_if : (x : TargetOf A) (r : Toks A) → after t.If (spell blank (target_words x) r) ≡ None
  no_if (RefTarget (RefWith id index last)) r = refl
  no_if (ConcatTarget line xs) r = refl

  no_case : (x : TargetOf A) (r : Toks A) → after t.Case (spell blank (target_words x) r) ≡ None
  no_case (RefTarget (RefWith id index last)) r = refl
  no_case (ConcatTarget line xs) r = refl

  -- a tree has a token
  some_target : (x : TargetOf A) → 0 < length (target_words x)
  some_target (RefTarget (RefWith id index last)) = omega arith
  some_target (ConcatTarget line xs) = omega arith

  some_stmt : (s : StmtOf A) → 0 < length (stmt_words s)
  some_stmt (BeginStmt ss) = omega arith
  some_stmt (IfStmt condition b other) = omega arith
  some_stmt (CaseStmt e xs) = omega arith
  some_stmt (AssignStmt target op value) = omega (
    arith,
    length-append (target_words target)
        (Fixed (assign_terminal op) ∷ (expr_words value ++ Fixed t.Semicolon ∷ [])),
  )

  -- an assignment
  no_bracket : (op : AssignOp) (r : Toks A) → after t.BracketOpen (spelled blank (Fixed (assign_terminal op)) ∷ r) ≡ None
  no_bracket assign.Blocking r = refl
  no_bracket assign.Nonblocking r = refl

  op_again : (op : AssignOp) (r : Toks A) → assign_op_at (spelled blank (Fixed (assign_terminal op)) ∷ r) ≡ Some (op, r)
  op_again assign.Blocking r = refl
  op_again assign.Nonblocking r = refl

  assign_read : (x : TargetOf A) (op : AssignOp) (e : ExprOf A) (n : ℕ) (r : Toks A) → IsGoodTarget x → IsGoodExpr e
      → size A blank (stmt_words (AssignStmt x op e)) ≤ n + 1
      → assign_stmt_at n (spell blank (stmt_words (AssignStmt x op e)) r) ≡ Some (AssignStmt x op e, r)
  assign_read x op e n r gx ge h =
      let tail = expr_words e ++ Fixed t.Semicolon ∷ [] in
      let long = length-append (target_words x) (Fixed (assign_terminal op) ∷ tail) in
      let longer = length-append (expr_words e) (Fixed t.Semicolon ∷ []) in
      step _
      (ap (λ (ws : Toks A). target_at n ws) (spell_append A blank (target_words x) (Fixed (assign_terminal op) ∷ tail) r)
      ∙ target_read A blank x (spelled blank (Fixed (assign_terminal op)) ∷ spell blank tail r) n gx (no_bracket op (spell blank tail r))
      (omega arith))
      (step _ (op_again op (spell blank tail r))
      (step _
      (ap (λ (ws : Toks A). expr_at n ws) (spell_append A blank (expr_words e) (Fixed t.Semicolon ∷ []) r)
      ∙ expr_read A blank e (spelled blank (Fixed t.Semicolon) ∷ r) n ge (ends_semicolon A blank r) (omega arith))
      refl))

  stmt_assign : (x : TargetOf A) (op : AssignOp) (e : ExprOf A) → IsGoodTarget x → IsGoodExpr e → StmtClaim (AssignStmt x op e)
  stmt_assign x op e gx ge zero r o h = absurd (omega (arith, some_stmt (AssignStmt x op e)))
  stmt_assign x op e gx ge (suc n) r o h =
      let tail = Fixed (assign_terminal op) ∷ (expr_words e ++ Fixed t.Semicolon ∷ []) in
      skipped _ (ap (λ (ws : Toks A). after t.Begin ws) (spell_append A blank (target_words x) tail r) ∙ no_begin x (spell blank tail r))
      (skipped _ (ap (λ (ws : Toks A). after t.If ws) (spell_append A blank (target_words x) tail r) ∙ no_if x (spell blank tail r))
      (skipped _ (ap (λ (ws : Toks A). after t.Case ws) (spell_append A blank (target_words x) tail r) ∙ no_case x (spell blank tail r))
      (assign_read x op e n r gx ge (omega arith))))

  -- a block
  stmts_none : StmtsClaim NoStmts
  stmts_none zero front r h = absurd (omega arith)
  stmts_none (suc n) front r h = ap (λ (ss : List (StmtOf A)). Some (ss, r)) (sym (append-nil front))

  stmts_more : (s : StmtOf A) (ss : StmtsOf A) → StmtClaim s → StmtsClaim ss → StmtsClaim (MoreStmts s ss)
  stmts_more s ss c m zero front r h = absurd (omega arith)
  stmts_more s ss c m (suc n) front r h =
      let long = length-append (stmt_words s) (stmts_words ss) in
      let some = some_stmt s in
      let rest = spell blank (stmts_words ss) (shut r) in
      ap (λ (ws : Toks A). stmts_at (suc n) front ws) (spell_append A blank (stmt_words s) (stmts_words ss) (shut r))
      ∙ skipped _ (no_end s rest)
      (step _ (c n rest (λ e. no_else_in ss r) (omega arith))
      (m n (front ++ s ∷ []) r (omega arith)
      ∙ ap (λ (ss : List (StmtOf A)). Some (ss, r)) (append_assoc front (s ∷ []) (list_of ss))))

  stmt_begin : (ss : StmtsOf A) → StmtsClaim ss → StmtClaim (BeginStmt ss)
  stmt_begin ss m zero r o h = absurd (omega arith)
  stmt_begin ss m (suc n) r o h =
      let long = length-append (stmts_words ss) (Fixed t.End ∷ []) in
      step _
      (ap (λ (ws : Toks A). stmts_at n [] ws) (spell_append A blank (stmts_words ss) (Fixed t.End ∷ []) r) ∙ m n [] r (omega arith))
      (ap (λ (ss : StmtsOf A). Some (BeginStmt ss, r)) (listed ss))

  -- a choice
  body_empty : BodyClaim EmptyBody
  body_empty zero r o h = absurd (omega arith)
  body_empty (suc n) r o h = refl

  body_stmt : (s : StmtOf A) → StmtClaim s → BodyClaim (StmtBody s)
  body_stmt s c zero r o h = absurd (omega arith)
  body_stmt s c (suc n) r o h =
      skipped _ (no_semicolon s r) (step _ (c n r o (omega arith)) refl)

  else_none : ElseClaim NoElse
  else_none zero r o h = absurd (omega arith)
  else_none (suc n) r o h = skipped _ (o refl) refl

  else_some : (b : BodyOf A) → BodyClaim b → ElseClaim (Else b)
  else_some b c zero r o h = absurd (omega arith)
  else_some b c (suc n) r o h = step _ (c n r o (omega arith)) refl

  -- an `else` behind a body doesn't belong to an `if` in it
  not_nearer : (b : BodyOf A) (other : ElseOf A) (r : Toks A) → IsShut b other → (is_open_else other ≡ true → after t.Else r ≡ None)
      → is_open_body b ≡ true → after t.Else (spell blank (else_words other) r) ≡ None
  not_nearer b NoElse r s o e = o refl
  not_nearer b (Else x) r s o e = absurd (true≢false (sym e ∙ s))

  stmt_if : (e : ExprOf A) (b : BodyOf A) (other : ElseOf A) → IsGoodExpr e → BodyClaim b → IsShut b other → ElseClaim other
      → StmtClaim (IfStmt e b other)
  stmt_if e b other g cb s co zero r o h = absurd (omega arith)
  stmt_if e b other g cb s co (suc zero) r o h = absurd (omega arith)
  stmt_if e b other g cb s co (suc (suc n)) r o h =
      let both = body_words b ++ else_words other in
      let long = length-append (expr_words e) (Fixed t.ParenClose ∷ both) in
      let longer = length-append (body_words b) (else_words other) in
      let rest = spell blank (else_words other) r in
      step _
      (ap (λ (ws : Toks A). expr_at n ws) (spell_append A blank (expr_words e) (Fixed t.ParenClose ∷ both) r)
      ∙ expr_read A blank e (spelled blank (Fixed t.ParenClose) ∷ spell blank both r) n g (ends_paren A blank (spell blank both r))
      (omega arith))
      (step _
      (ap (λ (ws : Toks A). body_at n ws) (spell_append A blank (body_words b) (else_words other) r)
      ∙ cb n rest (not_nearer b other r s o) (omega arith))
      (step _ (co n r o (omega arith)) refl))

  -- the arms of a `case`
  abbrev ArmClaim : ArmOf A → Type 0
  ArmClaim a =
      (n : ℕ) (r : Toks A) → after t.Else r ≡ None → size A blank (arm_words a) ≤ n → arm_at n (spell blank (arm_words a) r) ≡ Some (a, r)

  abbrev closed : Toks A → Toks A
  closed r = spelled blank (Fixed t.Endcase) ∷ r

  abbrev arm_list : ArmsOf A → List (ArmOf A)
  arm_list NoArms = []
  arm_list (MoreArms a more) = a ∷ arm_list more

  arms_listed : (xs : ArmsOf A) → arms_of (arm_list xs) ≡ xs
  arms_listed NoArms = refl
  arms_listed (MoreArms a more) = ap (MoreArms a) (arms_listed more)

  abbrev ArmsClaim : ArmsOf A → Type 0
  ArmsClaim xs = (n : ℕ) (front : List (ArmOf A)) (r : Toks A) → size A blank (arms_words xs) + 1 ≤ n
      → arms_at n front (spell blank (arms_words xs) (closed r)) ≡ Some (front ++ arm_list xs, r)

  -- no arm begins with a reserved word but `default`
  labels_start : (x : Terminal) → NoStart A blank x → (e : ExprOf A) (es : List (ExprOf A)) (b : List (WordOf A)) (r : Toks A)
      → after x (spell blank (with_commas expr_words (e ∷ es) ++ b) r) ≡ None
  labels_start x s e es b r =
      ap (λ (ws : Toks A). after x ws) (spell_append A blank (with_commas expr_words (e ∷ es)) b r
      ∙ spell_append A blank (expr_words e) (after_commas expr_words es) (spell blank b r))
      ∙ expr_start A blank x s e (spell blank (after_commas expr_words es) (spell blank b r))

  no_endcase : (a : ArmOf A) (r : Toks A) → after t.Endcase (spell blank (arm_words a) r) ≡ None
  no_endcase (LabelsArm [] b) r = refl
  no_endcase (LabelsArm (e ∷ es) b) r = labels_start t.Endcase (reserved_start A blank t.Endcase refl) e es (Fixed t.Colon ∷ body_words b) r
  no_endcase (DefaultArm line colon b) r = refl

  no_else_arm : (a : ArmOf A) (r : Toks A) → after t.Else (spell blank (arm_words a) r) ≡ None
  no_else_arm (LabelsArm [] b) r = refl
  no_else_arm (LabelsArm (e ∷ es) b) r = labels_start t.Else (reserved_start A blank t.Else refl) e es (Fixed t.Colon ∷ body_words b) r
  no_else_arm (DefaultArm line colon b) r = refl

  no_else_arms : (xs : ArmsOf A) (r : Toks A) → after t.Else (spell blank (arms_words xs) (closed r)) ≡ None
  no_else_arms NoArms r = refl
  no_else_arms (MoreArms a more) r = ap (λ (ws : Toks A). after t.Else ws) (spell_append A blank (arm_words a) (arms_words more) (closed r))
      ∙ no_else_arm a (spell blank (arms_words more) (closed r))

  some_arm : (a : ArmOf A) → 0 < length (arm_words a)
  some_arm (LabelsArm ls b) = omega (arith, length-append (with_commas expr_words ls) (Fixed t.Colon ∷ body_words b))
  some_arm (DefaultArm line colon b) = omega arith

  arm_labels : (e : ExprOf A) (es : List (ExprOf A)) (b : BodyOf A) → AreSomeGood IsGoodExpr (e ∷ es) → BodyClaim b
      → ArmClaim (LabelsArm (e ∷ es) b)
  arm_labels e es b g cb zero r o h = absurd (omega (arith, some_arm (LabelsArm (e ∷ es) b)))
  arm_labels e es b g cb (suc n) r o h =
      let tail = Fixed t.Colon ∷ body_words b in
      let long = length-append (with_commas expr_words (e ∷ es)) tail in
      skipped _ (labels_start t.Default (reserved_start A blank t.Default refl) e es tail r)
      (step _
      (ap (λ (ws : Toks A). some_at (expr_at n) n ws) (spell_append A blank (with_commas expr_words (e ∷ es)) tail r)
      ∙ some_read A blank expr_words IsGoodExpr (expr_at n) n (exprs_read A blank n) e es (spell blank tail r) g (parts_colon A blank
      (spell blank (body_words b) r)) refl
      (omega arith))
      (step _ (cb n r (λ _. o) (omega arith)) refl))

  arm_default : (line : A) (colon : Bool) (b : BodyOf A) → BodyClaim b → ArmClaim (DefaultArm line colon b)
  arm_default line colon b cb zero r o h = absurd (omega (arith, some_arm (DefaultArm line colon b)))
  arm_default line false b cb (suc n) r o h = step _ (skipped _ (no_colon b r) refl) (step _ (cb n r (λ _. o) (omega arith)) refl)
  arm_default line true b cb (suc n) r o h = step _ (cb n r (λ _. o) (omega arith)) refl

  arms_none : ArmsClaim NoArms
  arms_none zero front r h = absurd (omega arith)
  arms_none (suc n) front r h = ap (λ (xs : List (ArmOf A)). Some (xs, r)) (sym (append-nil front))

  arms_more : (a : ArmOf A) (more : ArmsOf A) → ArmClaim a → ArmsClaim more → ArmsClaim (MoreArms a more)
  arms_more a more c m zero front r h = absurd (omega arith)
  arms_more a more c m (suc n) front r h =
      let long = length-append (arm_words a) (arms_words more) in
      let some = some_arm a in
      let rest = spell blank (arms_words more) (closed r) in
      ap (λ (ws : Toks A). arms_at (suc n) front ws) (spell_append A blank (arm_words a) (arms_words more) (closed r))
      ∙ skipped _ (no_endcase a rest)
      (step _ (c n rest (no_else_arms more r) (omega arith))
      (m n (front ++ a ∷ []) r (omega arith)
      ∙ ap (λ (xs : List (ArmOf A)). Some (xs, r)) (append_assoc front (a ∷ []) (arm_list more))))

  stmt_case : (e : ExprOf A) (a : ArmOf A) (more : ArmsOf A) → IsGoodExpr e → ArmClaim a → ArmsClaim more
      → StmtClaim (CaseStmt e (MoreArms a more))
  stmt_case e a more g c m zero r o h = absurd (omega arith)
  stmt_case e a more g c m (suc zero) r o h = absurd (omega arith)
  stmt_case e a more g c m (suc (suc n)) r o h =
      let all = arm_words a ++ arms_words more in
      let both = all ++ Fixed t.Endcase ∷ [] in
      let long = length-append (expr_words e) (Fixed t.ParenClose ∷ both) in
      let longer = length-append all (Fixed t.Endcase ∷ []) in
      let longest = length-append (arm_words a) (arms_words more) in
      step _
      (ap (λ (ws : Toks A). expr_at n ws) (spell_append A blank (expr_words e) (Fixed t.ParenClose ∷ both) r)
      ∙ expr_read A blank e (spelled blank (Fixed t.ParenClose) ∷ spell blank both r) n g (ends_paren A blank (spell blank both r))
      (omega arith))
      (step _
      (ap (λ (ws : Toks A). arm_at n ws) (spell_append A blank all (Fixed t.Endcase ∷ []) r
      ∙ spell_append A blank (arm_words a) (arms_words more) (closed r))
      ∙ c n (spell blank (arms_words more) (closed r)) (no_else_arms more r) (omega arith))
      (step _ (m n (a ∷ []) r (omega arith)) (ap (λ (xs : ArmsOf A). Some (CaseStmt e (MoreArms a xs), r)) (arms_listed more))))

  mutual
    reads_stmt : (s : StmtOf A) → IsGoodStmt s → StmtClaim s
    reads_stmt (BeginStmt ss) g = stmt_begin ss (reads_stmts ss g)
    reads_stmt (IfStmt e b other) g = stmt_if e b other g.0 (reads_body b g.1) g.2 (reads_else other g.3)
    reads_stmt (CaseStmt e NoArms) g = absurd g.1
    reads_stmt (CaseStmt e (MoreArms a more)) g = stmt_case e a more g.0 (reads_arm a g.1.0) (reads_arms more g.1.1)
    reads_stmt (AssignStmt x op e) g = stmt_assign x op e g.0 g.1

    reads_body : (b : BodyOf A) → IsGoodBody b → BodyClaim b
    reads_body (StmtBody s) g = body_stmt s (reads_stmt s g)
    reads_body EmptyBody g = body_empty

    reads_else : (o : ElseOf A) → IsGoodElse o → ElseClaim o
    reads_else NoElse g = else_none
    reads_else (Else b) g = else_some b (reads_body b g)

    reads_arm : (a : ArmOf A) → IsGoodArm a → ArmClaim a
    reads_arm (LabelsArm [] b) g = absurd g.0
    reads_arm (LabelsArm (e ∷ es) b) g = arm_labels e es b g.0 (reads_body b g.1)
    reads_arm (DefaultArm line colon b) g = arm_default line colon b (reads_body b g)

    reads_arms : (xs : ArmsOf A) → AreAllGoodArms xs → ArmsClaim xs
    reads_arms NoArms g = arms_none
    reads_arms (MoreArms a more) g = arms_more a more (reads_arm a g.0) (reads_arms more g.1)

    reads_stmts : (ss : StmtsOf A) → AreGoodStmts ss → StmtsClaim ss
    reads_stmts NoStmts g = stmts_none
    reads_stmts (MoreStmts s ss) g = stmts_more s ss (reads_stmt s g.0) (reads_stmts ss g.1)

  pub body_read : (b : BodyOf A) (rest : Toks A) (fuel : ℕ) → IsGoodBody b → (is_open_body b ≡ true → after t.Else rest ≡ None)
      → fuel_for (length (body_words b)) ≤ fuel
      → body_at fuel (spell blank (body_words b) rest) ≡ Some (b, rest)
  body_read b rest fuel g o h = reads_body b g fuel rest o (omega arith)
