-- Lists as plain data, one item longer.
use Rattle.std.proofs.Common.{◌≡◌, List, [], ◌∷◌, ◌++◌, refl, ap, map, length, suc}
use Rattle.vlog_tree.specs.vlog_lex.declared.token.Token.{Token}
use Rattle.vlog_expr.specs.Marks.{all_marked}
use Rattle.vlog_tree.specs.Plain.{plain_expr, plain_target}
use Rattle.vlog_tree.specs.declared.expr.Expr.{Expr}
use Rattle.vlog_tree.specs.declared.stmt.Target.{Target}

pub map_snoc : {X Y : Type 0} (f : X → Y) (xs : List X) (x : X) → map f (xs ++ x ∷ []) ≡ map f xs ++ f x ∷ []
map_snoc f [] x = refl
map_snoc {X} {Y} f (y ∷ xs) x = ap (λ (ys : List Y). f y ∷ ys) (map_snoc f xs x)

pub exprs_snoc : (xs : List Expr) (x : Expr) → map plain_expr (xs ++ x ∷ []) ≡ map plain_expr xs ++ plain_expr x ∷ []
exprs_snoc = map_snoc plain_expr

pub targets_snoc : (xs : List Target) (x : Target) → map plain_target (xs ++ x ∷ []) ≡ map plain_target xs ++ plain_target x ∷ []
targets_snoc = map_snoc plain_target

pub marked_length : (ts : List Token) → length (all_marked ts) ≡ length ts
marked_length [] = refl
marked_length (t ∷ ts) = ap suc (marked_length ts)
