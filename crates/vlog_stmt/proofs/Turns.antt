-- One turn of each loop of the reader of statements.
use Rattle.std.proofs.Common.{◌≡◌, ℕ, suc, Option, None, Some, List, [], ◌∷◌, ◌++◌, ap, ◌∙◌}
use Rattle.vlog_tree.specs.declared.terminal.Terminal.TheVariants as t
use Rattle.vlog_tree.specs.Tree.{StmtOf, ArmOf}
use Rattle.vlog_expr.specs.Marks.{Toks, after}
use Rattle.vlog_expr.specs.Reader.{◌>>=◌, found_or, Read}
use Rattle.vlog_stmt.specs.StmtReader.{stmt_at, stmts_at, arm_at, arms_at}

pub stmts_turn : {A : Type 0} (m n : ℕ) (front : List (StmtOf A)) (ws : Toks A) (x : StmtOf A × Toks A)
    → m ≡ suc n → after t.End ws ≡ None → stmt_at n ws ≡ Some x → stmts_at m front ws ≡ stmts_at n (front ++ x.0 ∷ []) x.1
stmts_turn {A} m n front ws x e h k =
    ap (λ (l : ℕ). stmts_at l front ws) e
    ∙ ap (λ (o : Option (A × Toks A)). found_or o (stmt_at n ws >>= λ s. stmts_at n (front ++ s.0 ∷ []) s.1) (λ o. Some (front, o.1))) h
    ∙ ap (λ (o : Read A (StmtOf A)). o >>= λ s. stmts_at n (front ++ s.0 ∷ []) s.1) k

pub arms_turn : {A : Type 0} (m n : ℕ) (front : List (ArmOf A)) (ws : Toks A) (x : ArmOf A × Toks A)
    → m ≡ suc n → after t.Endcase ws ≡ None → arm_at n ws ≡ Some x → arms_at m front ws ≡ arms_at n (front ++ x.0 ∷ []) x.1
arms_turn {A} m n front ws x e h k =
    ap (λ (l : ℕ). arms_at l front ws) e
    ∙ ap (λ (o : Option (A × Toks A)). found_or o (arm_at n ws >>= λ s. arms_at n (front ++ s.0 ∷ []) s.1) (λ o. Some (front, o.1))) h
    ∙ ap (λ (o : Read A (ArmOf A)). o >>= λ s. arms_at n (front ++ s.0 ∷ []) s.1) k
