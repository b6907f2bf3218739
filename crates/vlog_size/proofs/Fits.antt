-- Numbers that fit a width.
use Rattle.std.proofs.Common.{◌≡◌, ℕ, ◌+◌, ◌*◌, ◌%◌, ◌^◌, ◌<◌, ◌≤◌, ap, ◌∙◌, Bool, true, false, ◌&&◌, if◌then◌else◌}
use Rattle.std.proofs.Common.{Option, None, Some, List, [], ◌∷◌, refl, sym, subst, arith, add-zero}
use Rattle.std.proofs.Math.Pow.{pow_mono}
use Rattle.std.proofs.lemmas.Grind.{common_steps}
use Rattle.std.proofs.lemmas.Nat.{mod_low}
use Rattle.vlog_tree.specs.vidi_bits.Number.{IsWidth, side_by_side}
use Rattle.vlog_tree.proofs.vidi_bits_lemmas.Below.{unary_below, binary_below, joined_below, rest_below, quotient_below, truth_bit, parity_bit, odd_bit}
use Rattle.vlog_tree.specs.vidi_bits.declared.operators.UnaryOp.TheVariants as flat
use Rattle.vlog_tree.specs.declared.expr.UnaryOp.{UnaryOp}
use Rattle.vlog_tree.specs.declared.expr.UnaryOp.TheVariants as unary
use Rattle.vlog_tree.specs.declared.expr.BinaryOp.{BinaryOp}
use Rattle.vlog_tree.specs.declared.expr.BinaryOp.TheVariants as binary
use Rattle.vlog_size.specs.declared.operators.Kind.TheVariants.{Comparison, Logic, Shift}
use Rattle.vlog_size.specs.Literal.{is_lawful}
use Rattle.vlog_size.specs.Operators.{kind_of, is_wide, unary_value, binary_value, operator_of}
use Rattle.vlog_size.specs.Size.{Sizes, of_one, of_two, own_width, join_with, joined, total_width}

-- a number that is there is below 2 to the power of w
abbrev pub Below : ℕ → Option ℕ → Type 0
Below w o = (n : ℕ) → o ≡ Some n → n < 2 ^ w

pub below_none : (w : ℕ) → Below w None
below_none w n h = (cc)

some_same : (m n : ℕ) → Some m ≡ Some n → m ≡ n
some_same m n h = (cc)

pub below_some : (w m : ℕ) → m < 2 ^ w → Below w (Some m)
below_some w m l n h = let same : m ≡ n = some_same m n h in omega arith

pub wider : (v w : ℕ) (o : Option ℕ) → v ≤ w → Below v o → Below w o
wider v w o h l n e = let grows : 2 ^ v ≤ 2 ^ w = pow_mono h in let below : n < 2 ^ v = l n e in omega arith

above_one : (w : ℕ) → 1 ≤ w → 2 ≤ 2 ^ w
above_one w h = pow_mono {i = 1} {j = w} h

bit_fits : (w m : ℕ) → 1 ≤ w → m ≤ 1 → m < 2 ^ w
bit_fits w m h l = omega (arith, above_one w h)

-- ---- the low bits of a number of 128 bits
pub no_bits : (n w : ℕ) → w ≡ 0 → n % 2 ^ w ≡ 0
no_bits n w h = rw h (omega arith)

pub all_bits : (n w : ℕ) → n < 2 ^ 128 → 128 < w → n % 2 ^ w ≡ n
all_bits n w h k =
    let grows : 2 ^ 128 ≤ 2 ^ w = pow_mono {i = 128} {j = w} (omega arith) in
    let small : n < 2 ^ w = omega arith in
    let whole : n ≡ 0 * 2 ^ w + n = omega arith in
    ap (λ (m : ℕ). m % 2 ^ w) whole ∙ mod_low 0 w n small

-- ---- operators
applied_below : (op : UnaryOp) (a w : ℕ) → IsWidth w → a < 2 ^ w → unary_value op a w < 2 ^ w
applied_below unary.Plus a w h l = l
applied_below unary.Minus a w h l = unary_below flat.Negate a w h l
applied_below unary.LogicalNot a w h l = unary_below flat.LogicalNot a w h l
applied_below unary.BitNot a w h l = unary_below flat.Complement a w h l
applied_below unary.And a w h l = unary_below flat.ReduceAnd a w h l
applied_below unary.Nand a w h l = unary_below flat.ReduceNand a w h l
applied_below unary.Or a w h l = unary_below flat.ReduceOr a w h l
applied_below unary.Nor a w h l = unary_below flat.ReduceNor a w h l
applied_below unary.Xor a w h l = unary_below flat.ReduceXor a w h l
applied_below unary.TildeXor a w h l = unary_below flat.ReduceXnor a w h l
applied_below unary.XorTilde a w h l = unary_below flat.ReduceXnor a w h l

narrow_bit : (op : UnaryOp) (a w : ℕ) → is_wide op ≡ false → unary_value op a w ≤ 1
narrow_bit unary.LogicalNot a w h = truth_bit _
narrow_bit unary.And a w h = truth_bit _
narrow_bit unary.Nand a w h = truth_bit _
narrow_bit unary.Or a w h = truth_bit _
narrow_bit unary.Nor a w h = truth_bit _
narrow_bit unary.Xor a w h = parity_bit _
narrow_bit unary.TildeXor a w h = odd_bit _
narrow_bit unary.XorTilde a w h = odd_bit _
narrow_bit _ a w h = (cc)

logic_bit : (op : BinaryOp) (a b w : ℕ) → kind_of op ≡ Logic → binary_value op a b w ≤ 1
logic_bit binary.LogicalOr a b w h = truth_bit _
logic_bit binary.LogicalAnd a b w h = truth_bit _
logic_bit _ a b w h = (cc)

comparison_bit : (op : BinaryOp) (a b w : ℕ) → kind_of op ≡ Comparison → binary_value op a b w ≤ 1
comparison_bit binary.Equal a b w h = truth_bit _
comparison_bit binary.NotEqual a b w h = truth_bit _
comparison_bit binary.Less a b w h = truth_bit _
comparison_bit binary.LessOrEqual a b w h = truth_bit _
comparison_bit binary.Greater a b w h = truth_bit _
comparison_bit binary.GreaterOrEqual a b w h = truth_bit _
comparison_bit _ a b w h = (cc)

shift_below : (op : BinaryOp) (a b w : ℕ) → kind_of op ≡ Shift → binary_value op a b w < 2 ^ w
shift_below binary.ShiftLeft a b w h = rest_below _ w
shift_below binary.ArithmeticShiftLeft a b w h = rest_below _ w
shift_below binary.ShiftRight a b w h = quotient_below a b w
shift_below binary.ArithmeticShiftRight a b w h = quotient_below a b w
shift_below _ a b w h = (cc)

-- ---- numbers that may be missing
pub wide_fits : (op : UnaryOp) (o : Option ℕ) (w : ℕ) → IsWidth w → Below w o → Below w (of_one (λ (n : ℕ). unary_value op n w) o)
wide_fits op None w h l = below_none w
wide_fits op (Some a) w h l = below_some w (unary_value op a w) (applied_below op a w h (l a refl))

pub narrow_fits : (op : UnaryOp) (o : Option ℕ) (v w : ℕ) → is_wide op ≡ false → 1 ≤ w → Below w (of_one (λ (n : ℕ). unary_value op n v) o)
narrow_fits op None v w b h = below_none w
narrow_fits op (Some a) v w b h = below_some w (unary_value op a v) (bit_fits w (unary_value op a v) h (narrow_bit op a v b))

pub sum_fits : (op : BinaryOp) (a b : Option ℕ) (w : ℕ) → IsWidth w → Below w a → Below w b
    → Below w (of_two (λ (m n : ℕ). Some (binary_value op m n w)) a b)
sum_fits op None b w h k l = below_none w
sum_fits op (Some a) None w h k l = below_none w
sum_fits op (Some a) (Some b) w h k l = below_some w (binary_value op a b w) (binary_below (operator_of op) a b w h (k a refl) (l b refl))

pub comparison_fits : (op : BinaryOp) (a b : Option ℕ) (v w : ℕ) → kind_of op ≡ Comparison → 1 ≤ w
    → Below w (of_two (λ (m n : ℕ). Some (binary_value op m n v)) a b)
comparison_fits op None b v w k h = below_none w
comparison_fits op (Some a) None v w k h = below_none w
comparison_fits op (Some a) (Some b) v w k h =
    below_some w (binary_value op a b v) (bit_fits w (binary_value op a b v) h (comparison_bit op a b v k))

pub logic_fits : (op : BinaryOp) (a b : Option ℕ) (w : ℕ) → kind_of op ≡ Logic → 1 ≤ w
    → Below w (of_two (λ (m n : ℕ). Some (binary_value op m n w)) a b)
logic_fits op None b w k h = below_none w
logic_fits op (Some a) None w k h = below_none w
logic_fits op (Some a) (Some b) w k h = below_some w (binary_value op a b w) (bit_fits w (binary_value op a b w) h (logic_bit op a b w k))

pub shift_fits : (op : BinaryOp) (a b : Option ℕ) (w : ℕ) → kind_of op ≡ Shift
    → Below w (of_two (λ (m n : ℕ). Some (binary_value op m n w)) a b)
shift_fits op None b w k = below_none w
shift_fits op (Some a) None w k = below_none w
shift_fits op (Some a) (Some b) w k = below_some w (binary_value op a b w) (shift_below op a b w k)

-- ---- concatenations
two_joined : (before v : ℕ) (a b : Option ℕ) → Below (before + v) (of_two (λ (high low : ℕ). Some (side_by_side high low before v)) a b)
two_joined before v None b = below_none (before + v)
two_joined before v (Some a) None = below_none (before + v)
two_joined before v (Some a) (Some b) = below_some (before + v) (side_by_side a b before v) (joined_below a b before v)

one_joined : (before v : ℕ) (n : Option ℕ) (p : Sizes) (there : Bool)
    → Below (before + v) (join_with before n p (if there then Some v else None))
one_joined before v n p true = two_joined before v n (p.value v)
one_joined before v n p false = below_none (before + v)

part_joined : (before : ℕ) (n : Option ℕ) (p : Sizes) → Below (before + p.width) (join_with before n p (own_width p))
unfolding own_width
part_joined before n p = one_joined before p.width n p (p.constant && is_lawful p.width)

at_sum : (v w : ℕ) (o : Option ℕ) → v ≡ w → Below v o → Below w o
at_sum v w o h l = let P : ℕ → Type 0 = λ u. Below u o in subst P h l

more_width : (before : ℕ) (p : Sizes) (ps : List Sizes) → before + p.width + total_width ps ≡ before + total_width (p ∷ ps)
more_width before p ps = grind (arith, common_steps)

pub joined_fits : (ps : List Sizes) (before : ℕ) (n : Option ℕ) → Below before n → Below (before + total_width ps) (joined before n ps)
joined_fits [] before n l = at_sum before (before + 0) n (sym (add-zero before)) l
joined_fits (p ∷ ps) before n l =
    at_sum (before + p.width + total_width ps) (before + total_width (p ∷ ps)) (joined before n (p ∷ ps)) (more_width before p ps)
    (joined_fits ps (before + p.width) (join_with before n p (own_width p)) (part_joined before n p))
