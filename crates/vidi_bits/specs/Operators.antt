-- The number of each operator (IEEE 1364-2005, clause 5.1), at a width of w bits.
use Rattle.std.specs.Prelude.{ℕ, ◌+◌, ◌*◌, ◌/◌, ◌%◌, ◌^◌, ◌-◌, ◌==◌, ◌&&◌, ◌||◌, not, nat_lt, nat_le, bit_and, bit_or, bit_xor, count_ones}
use Rattle.vidi_bits.specs.declared.operators.UnaryOp.{UnaryOp}
use Rattle.vidi_bits.specs.declared.operators.UnaryOp.TheVariants.{Negate, Complement, LogicalNot, ReduceAnd, ReduceNand, ReduceOr}
use Rattle.vidi_bits.specs.declared.operators.UnaryOp.TheVariants.{ReduceNor, ReduceXor, ReduceXnor}
use Rattle.vidi_bits.specs.declared.operators.BinaryOp.{BinaryOp}
use Rattle.vidi_bits.specs.declared.operators.BinaryOp.TheVariants.{Add, Subtract, Multiply, And, Or, Xor, Xnor, ShiftLeft}
use Rattle.vidi_bits.specs.declared.operators.BinaryOp.TheVariants.{ShiftRight, Less, LessEqual, Greater, GreaterEqual, Equal}
use Rattle.vidi_bits.specs.declared.operators.BinaryOp.TheVariants.{NotEqual, LogicalAnd, LogicalOr}
use Rattle.vidi_bits.specs.Number.{difference, complement, truth}

-- 5.1.5 arithmetic, 5.1.9 logical, 5.1.10 bit-wise, 5.1.11 reductions of an operand of w bits
abbrev pub unary_number : UnaryOp → ℕ → ℕ → ℕ
unary_number Negate a w = difference 0 a w
unary_number Complement a w = complement a w
unary_number LogicalNot a w = truth (a == 0)
unary_number ReduceAnd a w = truth (a == 2 ^ w - 1)
unary_number ReduceNand a w = truth (not (a == 2 ^ w - 1))
unary_number ReduceOr a w = truth (not (a == 0))
unary_number ReduceNor a w = truth (a == 0)
unary_number ReduceXor a w = count_ones a % 2
unary_number ReduceXnor a w = 1 - count_ones a % 2

-- 5.1.5 arithmetic, 5.1.7 relational, 5.1.8 equality, 5.1.9 logical, 5.1.10 bit-wise, 5.1.12 shifts, at w bits
abbrev pub binary_number : BinaryOp → ℕ → ℕ → ℕ → ℕ
binary_number Add a b w = (a + b) % 2 ^ w
binary_number Subtract a b w = difference a b w
binary_number Multiply a b w = a * b % 2 ^ w
binary_number And a b w = bit_and a b
binary_number Or a b w = bit_or a b
binary_number Xor a b w = bit_xor a b
binary_number Xnor a b w = complement (bit_xor a b) w
binary_number ShiftLeft a b w = a * 2 ^ b % 2 ^ w
binary_number ShiftRight a b w = a % 2 ^ w / 2 ^ b
binary_number Less a b w = truth (nat_lt a b)
binary_number LessEqual a b w = truth (nat_le a b)
binary_number Greater a b w = truth (nat_lt b a)
binary_number GreaterEqual a b w = truth (nat_le b a)
binary_number Equal a b w = truth (a == b)
binary_number NotEqual a b w = truth (not (a == b))
binary_number LogicalAnd a b w = truth (not (a == 0) && not (b == 0))
binary_number LogicalOr a b w = truth (not (a == 0) || not (b == 0))
