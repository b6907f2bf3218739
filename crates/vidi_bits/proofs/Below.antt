-- Operators' numbers are below 2 to the power of their width.
use Rattle.std.proofs.Common.{ℕ, ◌+◌, ◌-◌, ◌*◌, ◌/◌, ◌%◌, ◌^◌, ◌<◌, ◌≤◌, ◌==◌, ◌&&◌, ◌||◌, not, nat_lt, nat_le, Bool, true, false}
use Rattle.std.proofs.Common.{bit_xor, count_ones, arith}
use Rattle.std.proofs.Math.Pow.{pow_mono}
use Rattle.std.proofs.lemmas.Nat.{pow_pos, pow-add, mod_below, mul-add-lt, or_lt, xor_lt}
use Rattle.std.specs.Int.Bits.{and_lt}
use Rattle.vidi_bits.specs.Number.{IsWidth, complement, truth, side_by_side}
use Rattle.vidi_bits.specs.Operators.{unary_number, binary_number}
use Rattle.vidi_bits.specs.declared.operators.UnaryOp.{UnaryOp}
use Rattle.vidi_bits.specs.declared.operators.UnaryOp.TheVariants as unary
use Rattle.vidi_bits.specs.declared.operators.BinaryOp.{BinaryOp}
use Rattle.vidi_bits.specs.declared.operators.BinaryOp.TheVariants as binary

above_one : (w : ℕ) → IsWidth w → 2 ≤ 2 ^ w
above_one w h = pow_mono {i = 1} {j = w} h.0

truth_below : (b : Bool) (w : ℕ) → IsWidth w → truth b < 2 ^ w
truth_below true w h = omega (arith, above_one w h)
truth_below false w h = omega (arith, above_one w h)

pub rest_below : (a w : ℕ) → a % 2 ^ w < 2 ^ w
rest_below a w = mod_below a (2 ^ w) (pow_pos w)

pub complement_below : (a w : ℕ) → complement a w < 2 ^ w
complement_below a w = let p : 0 < 2 ^ w = pow_pos w in omega arith

pub quotient_below : (a b w : ℕ) → a % 2 ^ w / 2 ^ b < 2 ^ w
quotient_below a b w = let r : a % 2 ^ w < 2 ^ w = rest_below a w in let p : 0 < 2 ^ b = pow_pos b in grind arith

-- a truth value
pub truth_bit : (b : Bool) → truth b ≤ 1
truth_bit true = omega arith
truth_bit false = omega arith

pub parity_bit : (n : ℕ) → n % 2 ≤ 1
parity_bit n = omega (arith, mod_below n 2 (omega arith))

pub odd_bit : (n : ℕ) → 1 - n % 2 ≤ 1
odd_bit n = omega arith

bit_below : (m w : ℕ) → IsWidth w → m ≤ 1 → m < 2 ^ w
bit_below m w h l = omega (arith, above_one w h)

pub unary_below : (op : UnaryOp) (a w : ℕ) → IsWidth w → a < 2 ^ w → unary_number op a w < 2 ^ w
unary_below unary.Negate a w h l = rest_below (0 + (2 ^ w - a % 2 ^ w)) w
unary_below unary.Complement a w h l = complement_below a w
unary_below unary.LogicalNot a w h l = truth_below (a == 0) w h
unary_below unary.ReduceAnd a w h l = truth_below (a == 2 ^ w - 1) w h
unary_below unary.ReduceNand a w h l = truth_below (not (a == 2 ^ w - 1)) w h
unary_below unary.ReduceOr a w h l = truth_below (not (a == 0)) w h
unary_below unary.ReduceNor a w h l = truth_below (a == 0) w h
unary_below unary.ReduceXor a w h l = bit_below (count_ones a % 2) w h (parity_bit (count_ones a))
unary_below unary.ReduceXnor a w h l = bit_below (1 - count_ones a % 2) w h (odd_bit (count_ones a))

pub binary_below : (op : BinaryOp) (a b w : ℕ) → IsWidth w → a < 2 ^ w → b < 2 ^ w → binary_number op a b w < 2 ^ w
binary_below binary.Add a b w h l m = rest_below (a + b) w
binary_below binary.Subtract a b w h l m = rest_below (a + (2 ^ w - b % 2 ^ w)) w
binary_below binary.Multiply a b w h l m = rest_below (a * b) w
binary_below binary.And a b w h l m = and_lt w a b l m
binary_below binary.Or a b w h l m = or_lt w a b l m
binary_below binary.Xor a b w h l m = xor_lt w a b l m
binary_below binary.Xnor a b w h l m = complement_below (bit_xor a b) w
binary_below binary.ShiftLeft a b w h l m = rest_below (a * 2 ^ b) w
binary_below binary.ShiftRight a b w h l m = quotient_below a b w
binary_below binary.Less a b w h l m = truth_below (nat_lt a b) w h
binary_below binary.LessEqual a b w h l m = truth_below (nat_le a b) w h
binary_below binary.Greater a b w h l m = truth_below (nat_lt b a) w h
binary_below binary.GreaterEqual a b w h l m = truth_below (nat_le b a) w h
binary_below binary.Equal a b w h l m = truth_below (a == b) w h
binary_below binary.NotEqual a b w h l m = truth_below (not (a == b)) w h
binary_below binary.LogicalAnd a b w h l m = truth_below (not (a == 0) && not (b == 0)) w h
binary_below binary.LogicalOr a b w h l m = truth_below (not (a == 0) || not (b == 0)) w h

pub joined_below : (high low v w : ℕ) → side_by_side high low v w < 2 ^ (v + w)
joined_below high low v w =
    rw (pow-add 2 v w) (grind (arith, mul-add-lt (high % 2 ^ v) (2 ^ w) (low % 2 ^ w) (2 ^ v) (rest_below high v) (rest_below low w)))
