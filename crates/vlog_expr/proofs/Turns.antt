-- One turn of the loop over a list with commas.
use Rattle.std.proofs.Common.{◌≡◌, ℕ, suc, Option, Some, List, [], ◌∷◌, ◌++◌, ap, ◌∙◌}
use Rattle.vlog_tree.specs.declared.terminal.Terminal.TheVariants as t
use Rattle.vlog_expr.specs.Marks.{Toks, after}
use Rattle.vlog_expr.specs.Reader.{◌>>=◌, found_or, Read, more_at}

pub more_turn : {A X : Type 0} (one : Toks A → Read A X) (m n : ℕ) (front : List X) (ws : Toks A) (comma : A × Toks A) (x : X × Toks A)
    → m ≡ suc n → after t.Comma ws ≡ Some comma → one comma.1 ≡ Some x → more_at one m front ws ≡ more_at one n (front ++ x.0 ∷ []) x.1
more_turn {A} {X} one m n front ws comma x e h k =
    ap (λ (l : ℕ). more_at one l front ws) e
    ∙ ap (λ (o : Option (A × Toks A)). found_or o (Some (front, ws)) (λ c. one c.1 >>= λ x. more_at one n (front ++ x.0 ∷ []) x.1)) h
    ∙ ap (λ (o : Read A X). o >>= λ x. more_at one n (front ++ x.0 ∷ []) x.1) k
