-- The kinds of the trees' operators, the operators that they stand for, and values in whole numbers (IEEE 1364-2005, 5.1;
-- this project's profile).
use Rattle.std.specs.Prelude.{ℕ, ◌+◌, ◌-◌, ◌*◌, ◌/◌, ◌^◌, Bool, true, false, nat_le, if◌then◌else◌, Option, Some, None}
use Rattle.vlog_size.specs.declared.operators.Kind.{Kind}
use Rattle.vlog_size.specs.declared.operators.Kind.TheVariants.{Sum, Comparison, Logic, Shift}
use Rattle.vlog_tree.specs.declared.expr.UnaryOp.{UnaryOp}
use Rattle.vlog_tree.specs.declared.expr.UnaryOp.TheVariants as unary
use Rattle.vlog_tree.specs.declared.expr.BinaryOp.{BinaryOp}
use Rattle.vlog_tree.specs.declared.expr.BinaryOp.TheVariants.{LogicalOr, LogicalAnd, Or, Xor, XorTilde, TildeXor, And}
use Rattle.vlog_tree.specs.declared.expr.BinaryOp.TheVariants.{Equal, NotEqual, Less, LessOrEqual, Greater, GreaterOrEqual}
use Rattle.vlog_tree.specs.declared.expr.BinaryOp.TheVariants.{ShiftLeft, ShiftRight, ArithmeticShiftLeft, ArithmeticShiftRight}
use Rattle.vlog_tree.specs.declared.expr.BinaryOp.TheVariants.{Plus, Minus, Times}
use Rattle.vlog_tree.specs.vidi_bits.declared.operators.UnaryOp as flat_unary
use Rattle.vlog_tree.specs.vidi_bits.declared.operators.UnaryOp.TheVariants as flat_unaries
use Rattle.vlog_tree.specs.vidi_bits.declared.operators.BinaryOp as flat_binary
use Rattle.vlog_tree.specs.vidi_bits.declared.operators.BinaryOp.TheVariants as flat_binaries
use Rattle.vlog_tree.specs.vidi_bits.Operators as numbers

-- how an operator takes the widths of its operands
abbrev pub kind_of : BinaryOp → Kind
kind_of LogicalOr = Logic
kind_of LogicalAnd = Logic
kind_of Or = Sum
kind_of Xor = Sum
kind_of XorTilde = Sum
kind_of TildeXor = Sum
kind_of And = Sum
kind_of Equal = Comparison
kind_of NotEqual = Comparison
kind_of Less = Comparison
kind_of LessOrEqual = Comparison
kind_of Greater = Comparison
kind_of GreaterOrEqual = Comparison
kind_of ShiftLeft = Shift
kind_of ShiftRight = Shift
kind_of ArithmeticShiftLeft = Shift
kind_of ArithmeticShiftRight = Shift
kind_of Plus = Sum
kind_of Minus = Sum
kind_of Times = Sum

-- 0 to 2,147,483,647
abbrev pub in_range : ℕ → Option ℕ
in_range n = if nat_le n 2147483647 then Some n else None

-- a value of `+ - * << >>` in whole numbers, where it is in range; no other operator is plain
abbrev pub whole_value : BinaryOp → ℕ → ℕ → Option ℕ
whole_value Plus a b = in_range (a + b)
whole_value Minus a b = if nat_le b a then in_range (a - b) else None
whole_value Times a b = in_range (a * b)
whole_value ShiftLeft a b = in_range (a * 2 ^ b)
whole_value ShiftRight a b = in_range (a / 2 ^ b)
whole_value _ a b = None

-- `+ - * << >>`
abbrev pub is_plain_op : BinaryOp → Bool
is_plain_op Plus = true
is_plain_op Minus = true
is_plain_op Times = true
is_plain_op ShiftLeft = true
is_plain_op ShiftRight = true
is_plain_op _ = false

-- `<< >>`
abbrev pub is_plain_shift : BinaryOp → Bool
is_plain_shift ShiftLeft = true
is_plain_shift ShiftRight = true
is_plain_shift _ = false

-- the operator that a tree's binary operator stands for; all is unsigned, so `<<<` is `<<` and `>>>` is `>>`
abbrev pub operator_of : BinaryOp → flat_binary.BinaryOp
operator_of LogicalOr = flat_binaries.LogicalOr
operator_of LogicalAnd = flat_binaries.LogicalAnd
operator_of Or = flat_binaries.Or
operator_of Xor = flat_binaries.Xor
operator_of XorTilde = flat_binaries.Xnor
operator_of TildeXor = flat_binaries.Xnor
operator_of And = flat_binaries.And
operator_of Equal = flat_binaries.Equal
operator_of NotEqual = flat_binaries.NotEqual
operator_of Less = flat_binaries.Less
operator_of LessOrEqual = flat_binaries.LessEqual
operator_of Greater = flat_binaries.Greater
operator_of GreaterOrEqual = flat_binaries.GreaterEqual
operator_of ShiftLeft = flat_binaries.ShiftLeft
operator_of ShiftRight = flat_binaries.ShiftRight
operator_of ArithmeticShiftLeft = flat_binaries.ShiftLeft
operator_of ArithmeticShiftRight = flat_binaries.ShiftRight
operator_of Plus = flat_binaries.Add
operator_of Minus = flat_binaries.Subtract
operator_of Times = flat_binaries.Multiply

-- the operator that a tree's unary operator stands for; `+` changes nothing
abbrev pub unary_operator_of : UnaryOp → Option flat_unary.UnaryOp
unary_operator_of unary.Plus = None
unary_operator_of unary.Minus = Some flat_unaries.Negate
unary_operator_of unary.LogicalNot = Some flat_unaries.LogicalNot
unary_operator_of unary.BitNot = Some flat_unaries.Complement
unary_operator_of unary.And = Some flat_unaries.ReduceAnd
unary_operator_of unary.Nand = Some flat_unaries.ReduceNand
unary_operator_of unary.Or = Some flat_unaries.ReduceOr
unary_operator_of unary.Nor = Some flat_unaries.ReduceNor
unary_operator_of unary.Xor = Some flat_unaries.ReduceXor
unary_operator_of unary.TildeXor = Some flat_unaries.ReduceXnor
unary_operator_of unary.XorTilde = Some flat_unaries.ReduceXnor

-- the number that an operator makes of an operand of w bits; none changes nothing
abbrev pub applied : Option flat_unary.UnaryOp → ℕ → ℕ → ℕ
applied None a w = a
applied (Some op) a w = numbers.unary_number op a w

-- `+ - ~`, which work at the width of the whole; the others are 1 bit wide
abbrev pub is_wide : UnaryOp → Bool
is_wide unary.Plus = true
is_wide unary.Minus = true
is_wide unary.BitNot = true
is_wide _ = false

-- the number of an operator before an operand of w bits
abbrev pub unary_value : UnaryOp → ℕ → ℕ → ℕ
unary_value op a w = applied (unary_operator_of op) a w

-- the number of an operator between two operands at w bits
abbrev pub binary_value : BinaryOp → ℕ → ℕ → ℕ → ℕ
binary_value op a b w = numbers.binary_number (operator_of op) a b w
