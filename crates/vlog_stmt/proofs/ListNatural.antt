-- Without lines the reader reads the same lists, without their lines.
use Rattle.std.proofs.Common.{◌≡◌, ℕ, zero, suc, List, [], ◌∷◌, ◌++◌, map, refl, ap, ◌∙◌}
use Rattle.vlog_tree.specs.declared.terminal.Terminal.TheVariants as t
use Rattle.vlog_expr.specs.Marks.{Toks}
use Rattle.vlog_expr.specs.Bare.{forget_all}
use Rattle.vlog_expr.specs.Reader.{Read, more_at, some_at}
use Rattle.vlog_expr.proofs.Natural.{U}
use Rattle.vlog_stmt.proofs.Steps.{Same, same, both_step, both_or, same_after}

pub map_snoc : {X Y : Type 0} (f : X → Y) (xs : List X) (x : X) → map f xs ++ f x ∷ [] ≡ map f (xs ++ x ∷ [])
map_snoc f [] x = refl
map_snoc {Y = Y} f (y ∷ ys) x = ap (λ (zs : List Y). f y ∷ zs) (map_snoc f ys x)

-- a reader with the list so far, one longer
pub longer : {A X Y Z W : Type 0} (h : Z → W) (f : X → Y) (xs : List X) (x : X) (p : List Y → Read U W) (o : Read A Z)
    → Same h (p (map f (xs ++ x ∷ []))) o → Same h (p (map f xs ++ f x ∷ [])) o
longer {Y = Y} h f xs x p o s = same (ap p (map_snoc f xs x) ∙ s.is)

module _ (A X Y : Type 0) (f : X → Y) (one : Toks A → Read A X) (other : Toks U → Read U Y)
    (each : (ws : Toks A) → Same f (other (forget_all ws)) (one ws)) where
  pub more_same : (n : ℕ) (xs : List X) (ws : Toks A) → Same (map f) (more_at other n (map f xs) (forget_all ws)) (more_at one n xs ws)
  more_same zero xs ws = same refl
  more_same (suc n) xs ws =
      both_or _ (same_after A t.Comma ws) (same refl)
      (λ c. both_step _ (each c.1) (λ x.
      longer (map f) f xs x.0 (λ ys. more_at other n ys (forget_all x.1)) (more_at one n (xs ++ x.0 ∷ []) x.1)
      (more_same n (xs ++ x.0 ∷ []) x.1)))

  pub some_same : (n : ℕ) (ws : Toks A) → Same (map f) (some_at other n (forget_all ws)) (some_at one n ws)
  some_same n ws = both_step _ (each ws) (λ x. more_same n (x.0 ∷ []) x.1)
