-- A literal without a fault has a lawful width, and a number that fits it.
use Rattle.std.proofs.Common.{◌≡◌, ℕ, ◌%◌, ◌^◌, ◌≤◌, Bool, true, false, ◌&&◌, ◌||◌, not, if◌then◌else◌, Option, None, Some, is_none}
use Rattle.std.proofs.Common.{List, refl, arith}
use Rattle.std.proofs.Math.Pow.{pow_mono}
use Rattle.vlog_tree.proofs.vidi_bits_lemmas.FindingLaws.{told_none}
use Rattle.vlog_tree.proofs.vidi_bits_lemmas.Below.{rest_below}
use Rattle.vlog_tree.specs.declared.expr.NumberKind.{NumberKind}
use Rattle.vlog_tree.specs.declared.expr.NumberKind.TheVariants.{Decimal, Based}
use Rattle.vlog_tree.specs.Tree.{NumberOf}
use Rattle.vlog_size.specs.declared.error.SizeError.TheVariants as error
use Rattle.vlog_tree.specs.vidi_bits.Limits.{below_top}
use Rattle.vlog_size.specs.Literal.{is_lawful, literal_width, literal_number, spelled_number, trimmed, is_bad_literal}
use Rattle.vlog_size.specs.Literal.{digits_from}
use Rattle.vlog_size.specs.Operators.{in_range}
use Rattle.vlog_size.specs.Size.{of_number, is_bad_number, is_decimal, decimal_value}
use Rattle.vlog_size.proofs.Fits.{Below, below_none, below_some, wider}
use Rattle.vlog_size.proofs.Sized.{Sized}

good_width : (a l : Bool) → (a || not l) ≡ false → l ≡ true
good_width true true h = (cc)
good_width true false h = (cc)
good_width false true h = refl
good_width false false h = (cc)

good_spelled : (a l : Bool) → (a || not l) ≡ false → a ≡ false
good_spelled true l h = (cc)
good_spelled false l h = refl

or_left : (a b : Bool) → (a || b) ≡ false → a ≡ false
or_left true b h = (cc)
or_left false b h = refl

or_right : (a b : Bool) → (a || b) ≡ false → b ≡ false
or_right true b h = (cc)
or_right false b h = h

trimmed_there : (n : Option ℕ) (w : ℕ) → is_none n ≡ false → is_lawful w ≡ true → is_none (trimmed n w) ≡ false
trimmed_there None w h l = h
trimmed_there (Some n) w h l = rw l refl

literal_there : (kind : NumberKind) (text : List ℕ) → is_bad_literal kind text ≡ false → is_none (literal_number kind text) ≡ false
literal_there Decimal text h = good_spelled (is_none (spelled_number Decimal text)) (is_lawful (literal_width Decimal text)) h
literal_there Based text h =
    trimmed_there (spelled_number Based text) (literal_width Based text)
    (good_spelled (is_none (spelled_number Based text)) (is_lawful (literal_width Based text)) h)
    (good_width (is_none (spelled_number Based text)) (is_lawful (literal_width Based text)) h)

decimal_there : (kind : NumberKind) (text : List ℕ) → (is_decimal kind && is_none (decimal_value kind text)) ≡ false
    → is_decimal kind ≡ true → is_none (decimal_value kind text) ≡ false
decimal_there Decimal text h p = h
decimal_there Based text h p = (cc)

trimmed_or : (b : Bool) (n v w : ℕ) → v ≤ w → Below w (if b then Some (n % 2 ^ v) else None)
trimmed_or true n v w h = wider v w (Some (n % 2 ^ v)) h (below_some v (n % 2 ^ v) (rest_below n v))
trimmed_or false n v w h = below_none w

trimmed_below : (o : Option ℕ) (v w : ℕ) → v ≤ w → Below w (trimmed o v)
trimmed_below None v w h = below_none w
trimmed_below (Some n) v w h = trimmed_or (is_lawful v) n v w h

decimal_below : (o : Option ℕ) (n w : ℕ) → 32 ≤ w → is_none (in_range n) ≡ false → o ≡ below_top n → Below w o
decimal_below o n w h r e m f =
    let small : n ≤ 2147483647 = grind arith in
    let same : m ≡ n = grind arith in
    let grows : 2 ^ 32 ≤ 2 ^ w = pow_mono h in
    omega arith

literal_fits : (kind : NumberKind) (text : List ℕ) (w : ℕ) → (is_decimal kind && is_none (decimal_value kind text)) ≡ false
    → literal_width kind text ≤ w → Below w (literal_number kind text)
literal_fits Decimal text w good h = decimal_below (literal_number Decimal text) (digits_from 10 0 text) w h good refl
literal_fits Based text w good h = trimmed_below (spelled_number Based text) (literal_width Based text) w h

pub number_sized : (n : NumberOf ℕ) → Sized (of_number n)
number_sized n h k =
    let decimal = is_decimal n.kind && is_none (decimal_value n.kind n.text) in
    let good : (is_bad_literal n.kind n.text || decimal) ≡ false = told_none (is_bad_number n) (error.Const n.line) h in
    let lawful : is_bad_literal n.kind n.text ≡ false = or_left (is_bad_literal n.kind n.text) decimal good in
    record {
      fits = λ w wide top. literal_fits n.kind n.text w (or_right (is_bad_literal n.kind n.text) decimal good) wide;
      lawful = good_width (is_none (spelled_number n.kind n.text)) (is_lawful (literal_width n.kind n.text)) lawful;
      parts = refl;
      known = λ c w. literal_there n.kind n.text lawful;
      whole = decimal_there n.kind n.text (or_right (is_bad_literal n.kind n.text) decimal good);
    }
