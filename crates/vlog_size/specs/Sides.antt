-- The two operands of an operator, and the two branches of `?:`.
use Rattle.std.specs.Prelude.{ℕ}
use Rattle.vlog_tree.specs.Tree.{ExprOf, UnaryExpr, BinaryExpr, ChoiceExpr}
use Rattle.vlog_size.specs.declared.length.Side.{Side}
use Rattle.vlog_size.specs.declared.length.Side.TheVariants.{Left, Right}

-- an expression without such is its own
abbrev pub left_of : ExprOf ℕ → ExprOf ℕ
left_of (UnaryExpr sign prim) = UnaryExpr sign prim
left_of (BinaryExpr a op b) = a
left_of (ChoiceExpr c a b) = a

abbrev pub right_of : ExprOf ℕ → ExprOf ℕ
right_of (UnaryExpr sign prim) = UnaryExpr sign prim
right_of (BinaryExpr a op b) = b
right_of (ChoiceExpr c a b) = b

abbrev pub operand_of : Side → ExprOf ℕ → ExprOf ℕ
operand_of Left e = left_of e
operand_of Right e = right_of e

abbrev pub other_side : Side → Side
other_side Left = Right
other_side Right = Left
