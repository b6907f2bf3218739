-- A counter's statement.
use Rattle.std.specs.Prelude.{ℕ, codes}
use Rattle.vlog_tree.specs.declared.expr.BinaryOp.TheVariants.{Plus}
use Rattle.vlog_tree.specs.Tree.{StmtOf, BinaryExpr}
use Rattle.shim_trees.specs.Pieces.{numbered, net, next}

-- `c0 <= c0 + d0 ;`, where 0 is j
abbrev pub counted : ℕ → StmtOf ℕ
counted j = next (numbered (codes "c") j) (BinaryExpr (net (numbered (codes "c") j)) Plus (net (numbered (codes "d") j)))
