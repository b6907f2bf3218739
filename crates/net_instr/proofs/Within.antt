-- Expressions whose number surely has at most w bits.
use Rattle.std.proofs.Common.{◌≡◌, ℕ, ◌+◌, ◌-◌, ◌*◌, ◌/◌, ◌%◌, ◌^◌, ◌<◌, ◌≤◌, ◌==◌, not, nat_le, nat_lt, Bool, true, false}
use Rattle.std.proofs.Common.{if◌then◌else◌, bit_xor, count_ones, sym, ap, ◌∙◌, arith}
use Rattle.std.proofs.Math.Pow.{pow_mono}
use Rattle.std.proofs.lemmas.Bool.{leb-true, eqb-true, and_parts}
use Rattle.std.proofs.lemmas.Nat.{or_lt, xor_lt, shr_split}
use Rattle.std.specs.Int.Bits.{and_lt}
use Rattle.net_design.specs.vidi_bits.Operators.{unary_number, binary_number}
use Rattle.net_design.specs.vidi_bits.declared.operators.UnaryOp.{UnaryOp}
use Rattle.net_design.specs.vidi_bits.declared.operators.UnaryOp.TheVariants as unary
use Rattle.net_design.specs.vidi_bits.declared.operators.BinaryOp.{BinaryOp}
use Rattle.net_design.specs.vidi_bits.declared.operators.BinaryOp.TheVariants as binary
use Rattle.net_design.proofs.vidi_bits_lemmas.Below.{rest_below, quotient_below, truth_bit, parity_bit, odd_bit, joined_below, complement_below}
use Rattle.net_design.specs.declared.rhs.Rhs.{Rhs, Number, Bits, Word', Unary', Binary', Choose', Join', Repeat', Select'}
use Rattle.net_design.specs.declared.values.Values.{Values}
use Rattle.net_design.specs.Value.{value}
use Rattle.net_instr.specs.Statements.{unary_within, binary_within, within}

more : (x k w : ℕ) → x < 2 ^ k → nat_le k w ≡ true → x < 2 ^ w
more x k w l h = let p : 2 ^ k ≤ 2 ^ w = pow_mono {i = k} {j = w} (leb-true _ _ h) in omega (arith, l, p)

small : (m w : ℕ) → m ≤ 1 → nat_le 1 w ≡ true → m < 2 ^ w
small m w l h = let p : 2 ≤ 2 ^ w = pow_mono {i = 1} {j = w} (leb-true _ _ h) in omega (arith, l, p)

no_high : (n w : ℕ) → (n / 2 ^ w == 0) ≡ true → n < 2 ^ w
no_high n w h =
    let z : n / 2 ^ w ≡ 0 = eqb-true _ _ h in
    let e : 0 * 2 ^ w + n % 2 ^ w ≡ n = ap (λ q. q * 2 ^ w + n % 2 ^ w) (sym z) ∙ shr_split n w in
    let l : n % 2 ^ w < 2 ^ w = rest_below n w in
    omega (arith, e, l)

unary_fits : (op : UnaryOp) (a k w : ℕ) → unary_within op k w ≡ true → unary_number op a k < 2 ^ w
unary_fits unary.Negate a k w h = more _ k w (rest_below (0 + (2 ^ k - a % 2 ^ k)) k) h
unary_fits unary.Complement a k w h = more _ k w (complement_below a k) h
unary_fits unary.LogicalNot a k w h = small _ w (truth_bit (a == 0)) h
unary_fits unary.ReduceAnd a k w h = small _ w (truth_bit (a == 2 ^ k - 1)) h
unary_fits unary.ReduceNand a k w h = small _ w (truth_bit (not (a == 2 ^ k - 1))) h
unary_fits unary.ReduceOr a k w h = small _ w (truth_bit (not (a == 0))) h
unary_fits unary.ReduceNor a k w h = small _ w (truth_bit (a == 0)) h
unary_fits unary.ReduceXor a k w h = small _ w (parity_bit (count_ones a)) h
unary_fits unary.ReduceXnor a k w h = small _ w (odd_bit (count_ones a)) h

binary_fits : (op : BinaryOp) (p q : Bool) (a b k w : ℕ) → (p ≡ true → a < 2 ^ w) → (q ≡ true → b < 2 ^ w)
    → binary_within op p q k w ≡ true → binary_number op a b k < 2 ^ w
binary_fits binary.Add p q a b k w f g h = more _ k w (rest_below (a + b) k) h
binary_fits binary.Subtract p q a b k w f g h = more _ k w (rest_below (a + (2 ^ k - b % 2 ^ k)) k) h
binary_fits binary.Multiply p q a b k w f g h = more _ k w (rest_below (a * b) k) h
binary_fits binary.And p q a b k w f g h = let t = and_parts p q h in and_lt w a b (f t.0) (g t.1)
binary_fits binary.Or p q a b k w f g h = let t = and_parts p q h in or_lt w a b (f t.0) (g t.1)
binary_fits binary.Xor p q a b k w f g h = let t = and_parts p q h in xor_lt w a b (f t.0) (g t.1)
binary_fits binary.Xnor p q a b k w f g h = more _ k w (complement_below (bit_xor a b) k) h
binary_fits binary.ShiftLeft p q a b k w f g h = more _ k w (rest_below (a * 2 ^ b) k) h
binary_fits binary.ShiftRight p q a b k w f g h = more _ k w (quotient_below a b k) h
binary_fits binary.Less p q a b k w f g h = small _ w (truth_bit (nat_lt a b)) h
binary_fits binary.LessEqual p q a b k w f g h = small _ w (truth_bit (nat_le a b)) h
binary_fits binary.Greater p q a b k w f g h = small _ w (truth_bit (nat_lt b a)) h
binary_fits binary.GreaterEqual p q a b k w f g h = small _ w (truth_bit (nat_le b a)) h
binary_fits binary.Equal p q a b k w f g h = small _ w (truth_bit (a == b)) h
binary_fits binary.NotEqual p q a b k w f g h = small _ w (truth_bit (not (a == b))) h
binary_fits binary.LogicalAnd p q a b k w f g h = small _ w (truth_bit _) h
binary_fits binary.LogicalOr p q a b k w f g h = small _ w (truth_bit _) h

either_fits : (b : Bool) (x y w : ℕ) → x < 2 ^ w → y < 2 ^ w → (if b then x else y) < 2 ^ w
either_fits true x y w h k = h
either_fits false x y w h k = k

pub within_fits : (e : Rhs) (w : ℕ) (v : Values) → within e w ≡ true → value e v < 2 ^ w
within_fits (Number n) w v h = no_high n w h
within_fits (Bits s) w v h = more _ s.width w (rest_below _ s.width) h
within_fits (Word' r p i) w v h = absurd cc
within_fits (Unary' op p a k) w v h = unary_fits op (value a v) k w h
within_fits (Binary' op p a q b k) w v h =
    binary_fits op (within a w) (within b w) (value a v) (value b v) k w (λ t. within_fits a w v t) (λ t. within_fits b w v t) h
within_fits (Choose' p c q a r b) w v h =
    let t = and_parts (within a w) (within b w) h in
    either_fits (value c v == 0) (value b v) (value a v) w (within_fits b w v t.1) (within_fits a w v t.0)
within_fits (Join' p high q low x y) w v h = more _ (x + y) w (joined_below (value high v) (value low v) x y) h
within_fits (Repeat' n p a k) w v h = absurd cc
within_fits (Select' p a q i k) w v h = more _ k w (rest_below _ k) h
