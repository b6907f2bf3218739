-- Lists as plain data, one statement longer.
use Rattle.std.proofs.Common.{◌≡◌, List, [], ◌∷◌, ◌++◌, map}
use Rattle.vlog_tree.specs.Plain.{plain_stmt, plain_arm}
use Rattle.vlog_tree.specs.declared.stmt.Stmt.{Stmt}
use Rattle.vlog_tree.specs.declared.stmt.Arm.{Arm}
use Rattle.vlog_expr.proofs.Maps.{map_snoc}

pub stmts_snoc : (xs : List Stmt) (x : Stmt) → map plain_stmt (xs ++ x ∷ []) ≡ map plain_stmt xs ++ plain_stmt x ∷ []
stmts_snoc = map_snoc plain_stmt

pub arms_snoc : (xs : List Arm) (x : Arm) → map plain_arm (xs ++ x ∷ []) ≡ map plain_arm xs ++ plain_arm x ∷ []
arms_snoc = map_snoc plain_arm
