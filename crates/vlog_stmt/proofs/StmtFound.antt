-- What is read is of good shape and spelled so: statements.
use Rattle.std.proofs.Common.{◌≡◌, ◌≢◌, ℕ, zero, suc, Bool, true, Option, None, Some, List, [], ◌∷◌, ◌++◌, sym, ap, ◌∙◌}
use Rattle.std.proofs.Common.{append_assoc, append-nil}
use Rattle.std.proofs.lemmas.Bool.{false_from_ne_true}
use Rattle.vlog_tree.specs.declared.terminal.Terminal.TheVariants as t
use Rattle.vlog_tree.specs.declared.stmt.AssignOp.{AssignOp}
use Rattle.vlog_tree.specs.Words.{WordOf, Fixed}
use Rattle.vlog_tree.specs.Tree.{StmtOf, BodyOf, ElseOf, NoElse, Else, stmts_of}
use Rattle.vlog_tree.specs.Spelling.{assign_terminal, stmt_words, body_words, else_words, stmts_words}
use Rattle.vlog_tree.specs.Shape.{is_open, is_open_body, is_open_else, IsShut, IsGoodStmt, IsGoodBody, IsGoodElse}
use Rattle.vlog_tree.specs.Shape.{AreGoodStmts}
use Rattle.vlog_expr.specs.Marks.{Toks, AreWords, AreLawful, after}
use Rattle.vlog_expr.specs.Reader.{expr_at}
use Rattle.vlog_stmt.specs.StmtReader.{assign_op_at, assign_stmt_at, stmt_at, if_at, body_at, else_at, stmts_at, colon_front, case_at}
use Rattle.vlog_stmt.specs.StmtReader.{arm_at, arms_at}
use Rattle.vlog_tree.specs.Tree.{ExprOf, ArmOf, arms_of}
use Rattle.vlog_tree.specs.Spelling.{expr_words, colon_words, arm_words, arms_words}
use Rattle.vlog_tree.specs.Shape.{IsGoodExpr, IsGoodArm, AreGoodArms, AreAllGoodArms}
use Rattle.vlog_expr.specs.Laws.{Holds}
use Rattle.vlog_stmt.specs.Laws.{ReadBodiesAreSpelled}
use Rattle.vlog_expr.proofs.Found.{From, again}
use Rattle.vlog_stmt.proofs.Sure.{Sure, nothing, sure, next, either, kept, ◌▹◌, some_none, false_true, start, target_found}
use Rattle.vlog_stmt.proofs.Sure.{expr_found, after_found, after_at_found}
use Rattle.vlog_stmt.proofs.ListFound.{alone, led_good, some_found}

module _ (A : Type 0) where
  abbrev AtOp : Toks A → AssignOp × Toks A → Type 0
  AtOp w x = From A w (Fixed (assign_terminal x.0) ∷ []) x.1

  abbrev AtStmt : Toks A → StmtOf A × Toks A → Type 0
  AtStmt w x = IsGoodStmt x.0 × (is_open x.0 ≡ true → after t.Else x.1 ≡ None) × From A w (stmt_words x.0) x.1

  abbrev pub AtBody : Toks A → BodyOf A × Toks A → Type 0
  AtBody w x = IsGoodBody x.0 × (is_open_body x.0 ≡ true → after t.Else x.1 ≡ None) × From A w (body_words x.0) x.1

  -- an `else` was there where one is read
  abbrev Follows : Toks A → ElseOf A → Type 0
  Follows w NoElse = Unit {0}
  Follows w (Else b) = after t.Else w ≢ None

  abbrev AtElse : Toks A → ElseOf A × Toks A → Type 0
  AtElse w x = IsGoodElse x.0 × (is_open_else x.0 ≡ true → after t.Else x.1 ≡ None) × From A w (else_words x.0) x.1 × Follows w x.0

  -- the statements so far
  abbrev AtFront : Toks A → List (StmtOf A) × Toks A → Type 0
  AtFront w x = AreGoodStmts (stmts_of x.0) × From A w (stmts_words (stmts_of x.0)) x.1

  -- all statements, behind their `end`
  abbrev AtBlock : Toks A → List (StmtOf A) × Toks A → Type 0
  AtBlock w x = AreGoodStmts (stmts_of x.0) × From A w (stmts_words (stmts_of x.0) ++ Fixed t.End ∷ []) x.1

  -- an arm, and the arms so far
  abbrev AtArm : Toks A → ArmOf A × Toks A → Type 0
  AtArm w x = IsGoodArm x.0 × From A w (arm_words x.0) x.1

  abbrev AtArms : Toks A → List (ArmOf A) × Toks A → Type 0
  AtArms w x = AreGoodArms (arms_of x.0) × From A w (arms_words (arms_of x.0)) x.1

  -- all arms, behind their `endcase`
  abbrev AtCase : Toks A → List (ArmOf A) × Toks A → Type 0
  AtCase w x = AreGoodArms (arms_of x.0) × From A w (arms_words (arms_of x.0) ++ Fixed t.Endcase ∷ []) x.1

  arm_words_snoc : (xs : List (ArmOf A)) (a : ArmOf A) → arms_words (arms_of xs) ++ arm_words a ≡ arms_words (arms_of (xs ++ a ∷ []))
  arm_words_snoc [] a = sym (append-nil (arm_words a))
  arm_words_snoc (x ∷ xs) a = append_assoc (arm_words x) (arms_words (arms_of xs)) (arm_words a)
      ∙ ap (λ (ws : List (WordOf A)). arm_words x ++ ws) (arm_words_snoc xs a)

  all_arms_snoc : (xs : List (ArmOf A)) (a : ArmOf A) → AreAllGoodArms (arms_of xs) → IsGoodArm a → AreAllGoodArms (arms_of (xs ++ a ∷ []))
  all_arms_snoc [] a g h = (h, tt)
  all_arms_snoc (x ∷ xs) a g h = (g.0, all_arms_snoc xs a g.1 h)

  good_arms_snoc : (xs : List (ArmOf A)) (a : ArmOf A) → AreGoodArms (arms_of xs) → IsGoodArm a → AreGoodArms (arms_of (xs ++ a ∷ []))
  good_arms_snoc [] a g h = absurd g
  good_arms_snoc (x ∷ xs) a g h = (g.0, all_arms_snoc xs a g.1 h)

  arms_snoc : (w mid rest : Toks A) (xs : List (ArmOf A)) (a : ArmOf A) → AtArms w (xs, mid) → AtArm mid (a, rest)
      → AtArms w (xs ++ a ∷ [], rest)
  arms_snoc w mid rest xs a g h = (
    good_arms_snoc xs a g.0 h.0,
    again A w rest (arms_words (arms_of xs) ++ arm_words a) (arms_words (arms_of (xs ++ a ∷ []))) (arm_words_snoc xs a) (g.1 ▹ h.1),
  )

  words_snoc : (xs : List (StmtOf A)) (s : StmtOf A) → stmts_words (stmts_of xs) ++ stmt_words s ≡ stmts_words (stmts_of (xs ++ s ∷ []))
  words_snoc [] s = sym (append-nil (stmt_words s))
  words_snoc (x ∷ xs) s = append_assoc (stmt_words x) (stmts_words (stmts_of xs)) (stmt_words s)
      ∙ ap (λ (ws : List (WordOf A)). stmt_words x ++ ws) (words_snoc xs s)

  good_snoc : (xs : List (StmtOf A)) (s : StmtOf A) → AreGoodStmts (stmts_of xs) → IsGoodStmt s → AreGoodStmts (stmts_of (xs ++ s ∷ []))
  good_snoc [] s g h = (h, tt)
  good_snoc (x ∷ xs) s g h = (g.0, good_snoc xs s g.1 h)

  stmts_snoc : (w mid rest : Toks A) (xs : List (StmtOf A)) (s : StmtOf A) → AtFront w (xs, mid) → AtStmt mid (s, rest)
      → AtFront w (xs ++ s ∷ [], rest)
  stmts_snoc w mid rest xs s g h = (
    good_snoc xs s g.0 h.0,
    again A w rest (stmts_words (stmts_of xs) ++ stmt_words s) (stmts_words (stmts_of (xs ++ s ∷ []))) (words_snoc xs s) (g.1 ▹ h.2),
  )

  shut : (b : BodyOf A) (o : ElseOf A) (ws : Toks A) → (is_open_body b ≡ true → after t.Else ws ≡ None) → Follows ws o → IsShut b o
  shut b NoElse ws h f = tt
  shut b (Else other) ws h f = false_from_ne_true (is_open_body b) (λ e. f (h e))

  op_found : (ws : Toks A) → AreLawful ws → Sure (assign_op_at ws) (AtOp ws)
  op_found ws h = either (after_found A t.Equals ws h) (next (after_found A t.LessEquals ws h) (λ o f. sure _ f)) (λ o f. sure _ f)

  assign_found : (n : ℕ) (ws : Toks A) → AreLawful ws → Sure (assign_stmt_at n ws) (AtStmt ws)
  assign_found n ws h =
      next (target_found A n ws h) (λ x gx.
      next (op_found x.1 gx.1.lawful) (λ o fo.
      next (expr_found A n o.1 fo.lawful) (λ e ge.
      next (after_found A t.Semicolon e.1 ge.1.lawful) (λ c fc.
      sure _ ((gx.0, ge.0), false_true, gx.1 ▹ fo ▹ ge.1 ▹ fc)))))

  abbrev AtColon : Toks A → Bool × Toks A → Type 0
  AtColon w x = From A w (colon_words x.0) x.1

  colon_found : (ws : Toks A) → AreLawful ws → Sure (colon_front ws) (AtColon ws)
  colon_found ws h = either (after_found A t.Colon ws h) (sure _ (start A ws h)) (λ o f. sure _ f)

  mutual
    stmt_found : (n : ℕ) (ws : Toks A) → AreLawful ws → Sure (stmt_at n ws) (AtStmt ws)
    stmt_found zero ws h = nothing
    stmt_found (suc n) ws h =
        either (after_found A t.Begin ws h)
        (either (after_found A t.If ws h)
        (either (after_found A t.Case ws h) (assign_found n ws h) (λ o f. case_found n ws o.1 f))
        (λ o f. branch_found n ws o.1 f))
        (λ o f. next (stmts_found n o.1 o.1 [] (tt, start A o.1 f.lawful)) (λ ss g. sure _ (g.0, false_true, f ▹ g.1)))

    branch_found : (n : ℕ) (w ws : Toks A) → From A w (Fixed t.If ∷ []) ws → Sure (if_at n ws) (AtStmt w)
    branch_found zero w ws f = nothing
    branch_found (suc n) w ws f =
        next (after_found A t.ParenOpen ws f.lawful) (λ o fo.
        next (expr_found A n o.1 fo.lawful) (λ e ge.
        next (after_found A t.ParenClose e.1 ge.1.lawful) (λ c fc.
        next (body_found n c.1 fc.lawful) (λ b gb.
        next (else_found n b.1 gb.2.lawful) (λ x gx.
        sure _ ((ge.0, gb.0, shut b.0 x.0 b.1 gb.1 gx.3, gx.0), gx.1, f ▹ fo ▹ ge.1 ▹ fc ▹ gb.2 ▹ gx.2))))))

    case_found : (n : ℕ) (w ws : Toks A) → From A w (Fixed t.Case ∷ []) ws → Sure (case_at n ws) (AtStmt w)
    case_found zero w ws f = nothing
    case_found (suc n) w ws f =
        next (after_found A t.ParenOpen ws f.lawful) (λ o fo.
        next (expr_found A n o.1 fo.lawful) (λ e ge.
        next (after_found A t.ParenClose e.1 ge.1.lawful) (λ c fc.
        next (arm_found n c.1 fc.lawful) (λ a ga.
        next (arms_found n c.1 a.1 (a.0 ∷ []) ((ga.0, tt), alone ga.1)) (λ xs gx.
        sure _ ((ge.0, gx.0), false_true, f ▹ fo ▹ ge.1 ▹ fc ▹ gx.1))))))

    arm_found : (n : ℕ) (ws : Toks A) → AreLawful ws → Sure (arm_at n ws) (AtArm ws)
    arm_found zero ws h = nothing
    arm_found (suc n) ws h =
        either (after_at_found A t.Default ws h)
        (next (some_found A (ExprOf A) (expr_at n) IsGoodExpr expr_words (expr_found A n) n ws h) (λ ls gs.
        next (after_found A t.Colon ls.1 gs.1.lawful) (λ c fc.
        next (body_found n c.1 fc.lawful) (λ b gb. sure _ ((led_good IsGoodExpr ls.0 gs.0, gb.0), gs.1 ▹ fc ▹ gb.2)))))
        (λ d f.
        next (colon_found d.1 f.lawful) (λ c fc.
        next (body_found n c.1 fc.lawful) (λ b gb. sure _ (gb.0, f ▹ fc ▹ gb.2))))

    arms_found : (n : ℕ) (w ws : Toks A) (xs : List (ArmOf A)) → AtArms w (xs, ws) → Sure (arms_at n xs ws) (AtCase w)
    arms_found zero w ws xs g = nothing
    arms_found (suc n) w ws xs g =
        either (after_found A t.Endcase ws g.1.lawful)
        (next (arm_found n ws g.1.lawful) (λ a ga. arms_found n w a.1 (xs ++ a.0 ∷ []) (arms_snoc w ws a.1 xs a.0 g ga)))
        (λ o f. sure _ (g.0, g.1 ▹ f))

    pub body_found : (n : ℕ) (ws : Toks A) → AreLawful ws → Sure (body_at n ws) (AtBody ws)
    body_found zero ws h = nothing
    body_found (suc n) ws h = either (after_found A t.Semicolon ws h) (next (stmt_found n ws h) (λ s g. sure _ g))
        (λ o f. sure _ (tt, false_true, f))

    else_found : (n : ℕ) (ws : Toks A) → AreLawful ws → Sure (else_at n ws) (AtElse ws)
    else_found zero ws h = nothing
    else_found (suc n) ws h =
        kept (after_found A t.Else ws h) (λ e. sure _ (tt, (λ _. e), start A ws h, tt))
        (λ o e f. next (body_found n o.1 f.lawful) (λ b g. sure _ (g.0, g.1, f ▹ g.2, (λ none. some_none o (sym e ∙ none)))))

    stmts_found : (n : ℕ) (w ws : Toks A) (xs : List (StmtOf A)) → AtFront w (xs, ws) → Sure (stmts_at n xs ws) (AtBlock w)
    stmts_found zero w ws xs g = nothing
    stmts_found (suc n) w ws xs g =
        either (after_found A t.End ws g.1.lawful)
        (next (stmt_found n ws g.1.lawful) (λ s gs. stmts_found n w s.1 (xs ++ s.0 ∷ []) (stmts_snoc w ws s.1 xs s.0 g gs)))
        (λ o f. sure _ (g.0, g.1 ▹ f))

  body_cases : (ws : Toks A) (o : Option (BodyOf A × Toks A)) → Sure o (AtBody ws)
      → Holds o (λ x. IsGoodBody x.0 × (is_open_body x.0 ≡ true → after t.Else x.1 ≡ None)
      × AreWords (body_words x.0) ws x.1)
  body_cases ws None h = tt
  body_cases ws (Some x) h = (h.holds.0, h.holds.1, h.holds.2.spells)

pub body_spelled : (A : Type 0) → ReadBodiesAreSpelled A
body_spelled A n ws h = body_cases A ws (body_at n ws) (body_found A n ws h)
