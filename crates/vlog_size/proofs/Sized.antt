-- Of parts without a fault: what each form of expression makes of their widths and numbers.
use Rattle.std.proofs.Common.{◌≡◌, ◌≤◌, ℕ, Bool, true, false, ◌&&◌, ◌||◌, not, max, if◌then◌else◌, Option, None, Some, is_none, [], ◌++◌, refl}
use Rattle.std.proofs.Common.{◌==◌, arith}
use Rattle.std.proofs.lemmas.Bool.{and_from}
use Rattle.vlog_tree.proofs.vidi_bits_lemmas.Bools.{never, left_of, right_of}
use Rattle.vlog_tree.proofs.vidi_bits_lemmas.FindingLaws.{told_none, both_nil}
use Rattle.vlog_tree.proofs.vidi_bits_lemmas.Lists.{nil_left, nil_right}
use Rattle.vlog_tree.specs.vidi_bits.Number.{IsWidth}
use Rattle.vlog_size.specs.declared.error.SizeError.TheVariants as error
use Rattle.vlog_size.specs.declared.operators.Kind.{Kind}
use Rattle.vlog_size.specs.declared.operators.Kind.TheVariants.{Sum, Comparison, Logic, Shift}
use Rattle.vlog_tree.specs.declared.expr.BinaryOp.{BinaryOp}
use Rattle.vlog_tree.specs.declared.expr.UnaryOp.{UnaryOp}
use Rattle.vlog_tree.specs.vidi_bits.Findings.{told_if}
use Rattle.vlog_size.specs.Literal.{is_lawful}
use Rattle.vlog_size.specs.Operators.{kind_of, is_plain_op, is_wide, whole_value, binary_value, unary_value}
use Rattle.vlog_size.specs.Size.{Sizes, own, own_width, at_width, number, is_sound, of_one, of_two, binary_width, operated, compared}
use Rattle.vlog_size.specs.Size.{shared_width, has_width, operands_lawful}
use Rattle.vlog_size.specs.Size.{of_binary, is_out, is_bad_operator, is_bad_binary, wide_value, narrow_value, of_sign}
use Rattle.vlog_size.specs.Size.{chosen_value, chosen_whole, of_choice, of_paren}
use Rattle.vlog_size.proofs.Fits.{Below, below_none, wide_fits, narrow_fits, sum_fits, comparison_fits, logic_fits, shift_fits}
use Rattle.vlog_size.proofs.Lists.{larger_lawful}

-- a lawful width, also of each part that makes it, the number of a constant, which fits each width that is large enough, and the value of a plain expression
pub record IsSized (e : Sizes) : Type 0 where
  pub lawful : is_lawful e.width ≡ true
  pub parts : e.parts_lawful ≡ true
  pub fits : (w : ℕ) → e.width ≤ w → w ≤ 128 → Below w (e.value w)
  pub known : e.constant ≡ true → (w : ℕ) → is_none (e.value w) ≡ false
  pub whole : e.plain ≡ true → is_none e.whole ≡ false

-- without a fault
abbrev pub Sized : Sizes → Type 0
Sized e = e.const_faults ≡ [] → e.width_faults ≡ [] → IsSized e

pub sized_width : (e : Sizes) → IsSized e → has_width e ≡ true
sized_width e s = and_from e.parts_lawful (is_lawful e.width) s.parts s.lawful

at_own : (value : ℕ → Option ℕ) (c l : Bool) (w : ℕ) → c ≡ true → l ≡ true → ((w : ℕ) → is_none (value w) ≡ false)
    → is_none (at_width value (if c && l then Some w else None)) ≡ false
at_own value true true w h k known = known w
at_own value true false w h k known = (cc)
at_own value false l w h k known = (cc)

pub own_there : (e : Sizes) → IsSized e → e.constant ≡ true → is_none (own e) ≡ false
unfolding own own_width
own_there e s c = at_own e.value e.constant (is_lawful e.width) e.width c s.lawful (s.known c)

pick : (p s : Bool) (a b : Option ℕ) → (p ≡ true → is_none a ≡ false) → s ≡ true → is_none b ≡ false
    → is_none (if p then a else (if s then b else None)) ≡ false
pick true s a b h k there = h refl
pick false true a b h k there = there
pick false false a b h k there = (cc)

-- a constant expression without a fault has a number
pub number_there : (e : Sizes) → IsSized e → e.constant ≡ true → e.const_faults ≡ [] → e.width_faults ≡ [] → is_none (number e) ≡ false
unfolding number
number_there e s c h k = pick e.plain (is_sound e) e.whole (own e) s.whole (both_nil e.const_faults e.width_faults h k) (own_there e s c)

one_there : (f : ℕ → ℕ) (a : Option ℕ) → is_none a ≡ false → is_none (of_one f a) ≡ false
one_there f None h = h
one_there f (Some a) h = refl

pub two_there : (f : ℕ → ℕ → ℕ) (a b : Option ℕ) → is_none a ≡ false → is_none b ≡ false
    → is_none (of_two (λ (m n : ℕ). Some (f m n)) a b) ≡ false
two_there f None b h k = h
two_there f (Some a) None h k = k
two_there f (Some a) (Some b) h k = refl

-- ---- an operator before an operand
sign_lawful : (b : Bool) (w : ℕ) → is_lawful w ≡ true → is_lawful (if b then w else 1) ≡ true
sign_lawful true w h = h
sign_lawful false w h = refl

or_second : (a b : Bool) → b ≡ true → (a || b) ≡ true
or_second true b h = refl
or_second false b h = h

narrow_there : (op : UnaryOp) (value : ℕ → Option ℕ) (c l : Bool) (w : ℕ) → c ≡ true → l ≡ true → ((w : ℕ) → is_none (value w) ≡ false)
    → is_none (narrow_value op value (if c && l then Some w else None)) ≡ false
narrow_there op value true true w h k known = one_there (λ (n : ℕ). unary_value op n w) (value w) (known w)
narrow_there op value true false w h k known = (cc)
narrow_there op value false l w h k known = (cc)

narrow_own : (op : UnaryOp) (a : Sizes) → IsSized a → a.constant ≡ true → is_none (narrow_value op a.value (own_width a)) ≡ false
unfolding own_width
narrow_own op a s c = narrow_there op a.value a.constant (is_lawful a.width) a.width c s.lawful (s.known c)

width_from : (v w : ℕ) → is_lawful v ≡ true → v ≤ w → w ≤ 128 → IsWidth w
width_from v w l h k = (grind arith, k)

narrow_own_fits : (op : UnaryOp) (value : ℕ → Option ℕ) (v : Option ℕ) (w : ℕ) → is_wide op ≡ false → 1 ≤ w
    → Below w (narrow_value op value v)
narrow_own_fits op value None w b h = below_none w
narrow_own_fits op value (Some v) w b h = narrow_fits op (value v) v w b h

sign_fits : (b : Bool) (op : UnaryOp) (a : Sizes) (w : ℕ) → is_wide op ≡ b → IsSized a → (if b then a.width else 1) ≤ w → w ≤ 128
    → Below w (if b then wide_value op a.value w else narrow_value op a.value (own_width a))
sign_fits true op a w e s h k = wide_fits op (a.value w) w (width_from a.width w s.lawful h k) (s.fits w h k)
sign_fits false op a w e s h k = narrow_own_fits op a.value (own_width a) w e h

either_there : (b : Bool) (x y : Option ℕ) → is_none x ≡ false → is_none y ≡ false → is_none (if b then x else y) ≡ false
either_there true x y h k = h
either_there false x y h k = k

pub sign_sized : (line : ℕ) (op : UnaryOp) (a : Sizes) → Sized a → Sized (of_sign line op a)
sign_sized line op a inner h k =
    let s : IsSized a = inner (nil_right (told_if (is_wide op && a.is_unsized) (error.Const line)) a.const_faults h) k in
    record {
      lawful = sign_lawful (is_wide op) a.width s.lawful;
      parts = or_second (not (is_wide op)) (has_width a) (sized_width a s);
      fits = λ w h k. sign_fits (is_wide op) op a w refl s h k;
      known = λ c w. either_there (is_wide op) (wide_value op a.value w) (narrow_value op a.value (own_width a))
          (one_there (λ (n : ℕ). unary_value op n w) (a.value w) (s.known c w)) (narrow_own op a s c);
      whole = λ p. never (true ≡ false) p;
    }

-- ---- two operands
compared_there : (op : BinaryOp) (a b : ℕ → Option ℕ) (c l : Bool) (w : ℕ) → c ≡ true → l ≡ true → ((w : ℕ) → is_none (a w) ≡ false)
    → ((w : ℕ) → is_none (b w) ≡ false)
    → is_none (compared op a b (if c && l then Some w else None)) ≡ false
compared_there op a b true true w h k x y = two_there (λ (m n : ℕ). binary_value op m n w) (a w) (b w) (x w) (y w)
compared_there op a b true false w h k x y = (cc)
compared_there op a b false l w h k x y = (cc)

comparison_there : (op : BinaryOp) (a b : Sizes) → IsSized a → IsSized b → a.constant ≡ true → b.constant ≡ true
    → is_none (compared op a.value b.value (shared_width a b)) ≡ false
unfolding shared_width
comparison_there op a b s t c d =
    compared_there op a.value b.value (a.constant && b.constant) (is_lawful (max a.width b.width)) (max a.width b.width)
    (and_from a.constant b.constant c d) (larger_lawful a.width b.width s.lawful t.lawful) (s.known c) (t.known d)

compared_fits : (op : BinaryOp) (a b : ℕ → Option ℕ) (v : Option ℕ) (w : ℕ) → kind_of op ≡ Comparison → 1 ≤ w → Below w (compared op a b v)
compared_fits op a b None w k h = below_none w
compared_fits op a b (Some v) w k h = comparison_fits op (a v) (b v) v w k h

left_fits : (a b w : ℕ) → max a b ≤ w → a ≤ w
left_fits a b w h = omega arith

right_fits : (a b w : ℕ) → max a b ≤ w → b ≤ w
right_fits a b w h = omega arith

binary_fits : (kind : Kind) (op : BinaryOp) (a b : Sizes) (w : ℕ) → kind_of op ≡ kind → IsSized a → IsSized b
    → binary_width kind a.width b.width ≤ w → w ≤ 128
    → Below w (operated kind op a b w)
binary_fits Sum op a b w e s t h k =
    sum_fits op (a.value w) (b.value w) w (width_from a.width w s.lawful (left_fits a.width b.width w h) k)
    (s.fits w (left_fits a.width b.width w h) k) (t.fits w (right_fits a.width b.width w h) k)
binary_fits Comparison op a b w e s t h k = compared_fits op a.value b.value (shared_width a b) w e h
binary_fits Logic op a b w e s t h k = logic_fits op (own a) (own b) w e h
binary_fits Shift op a b w e s t h k = shift_fits op (a.value w) (own b) w e

binary_there : (kind : Kind) (op : BinaryOp) (a b : Sizes) (w : ℕ) → IsSized a → IsSized b → a.constant ≡ true → b.constant ≡ true
    → is_none (operated kind op a b w) ≡ false
binary_there Sum op a b w s t c d = two_there (λ (m n : ℕ). binary_value op m n w) (a.value w) (b.value w) (s.known c w) (t.known d w)
binary_there Comparison op a b w s t c d = comparison_there op a b s t c d
binary_there Logic op a b w s t c d = two_there (λ (m n : ℕ). binary_value op m n w) (own a) (own b) (own_there a s c) (own_there b t d)
binary_there Shift op a b w s t c d = two_there (λ (m n : ℕ). binary_value op m n w) (a.value w) (own b) (s.known c w) (own_there b t d)

binary_lawful : (kind : Kind) (a b : ℕ) → is_lawful a ≡ true → is_lawful b ≡ true → is_lawful (binary_width kind a b) ≡ true
binary_lawful Sum a b h k = larger_lawful a b h k
binary_lawful Comparison a b h k = refl
binary_lawful Logic a b h k = refl
binary_lawful Shift a b h k = h

binary_parts : (kind : Kind) (a b : Sizes) → IsSized a → IsSized b → operands_lawful kind a b ≡ true
binary_parts Sum a b s t = and_from (has_width a) (has_width b) (sized_width a s) (sized_width b t)
binary_parts Comparison a b s t = refl
binary_parts Logic a b s t = refl
binary_parts Shift a b s t = sized_width a s

in_range_there : (op : BinaryOp) (a b : Option ℕ) → is_none a ≡ false → is_none b ≡ false → is_out op a b ≡ false
    → is_none (of_two (whole_value op) a b) ≡ false
in_range_there op None b h k o = h
in_range_there op (Some a) None h k o = k
in_range_there op (Some a) (Some b) h k o = o

not_out : (bad p q r o : Bool) → (bad || ((p && (q && r)) && o)) ≡ false → (p && (q && r)) ≡ true → o ≡ false
not_out true p q r o h k = (cc)
not_out false true true true o h k = h
not_out false true true false o h k = (cc)
not_out false true false r o h k = (cc)
not_out false false q r o h k = (cc)

pub binary_sized : (op : BinaryOp) (a b : Sizes) → Sized a → Sized b → Sized (of_binary op a b)
binary_sized op a b left right h k =
    let bad = is_bad_binary op a b in
    let parts : a.const_faults ++ b.const_faults ≡ [] = nil_right (told_if bad (error.Const a.line)) (a.const_faults ++ b.const_faults) h in
    let s : IsSized a = left (nil_left a.const_faults b.const_faults parts) (nil_left a.width_faults b.width_faults k) in
    let t : IsSized b = right (nil_right a.const_faults b.const_faults parts) (nil_right a.width_faults b.width_faults k) in
    let good : bad ≡ false =
    told_none bad (error.Const a.line) (nil_left (told_if bad (error.Const a.line)) (a.const_faults ++ b.const_faults) h) in
    record {
      lawful = binary_lawful (kind_of op) a.width b.width s.lawful t.lawful;
      parts = binary_parts (kind_of op) a b s t;
      fits = λ w h k. binary_fits (kind_of op) op a b w refl s t h k;
      known = λ c w. binary_there (kind_of op) op a b w s t (left_of a.constant b.constant c) (right_of a.constant b.constant c);
      whole = λ p. in_range_there op a.whole b.whole
          (s.whole (left_of a.plain b.plain (right_of (is_plain_op op) (a.plain && b.plain) p)))
          (t.whole (right_of a.plain b.plain (right_of (is_plain_op op) (a.plain && b.plain) p)))
          (not_out (is_bad_operator op a.is_unsized b.is_unsized a.plain b.plain) (is_plain_op op) a.plain b.plain
          (is_out op a.whole b.whole) good p);
    }

-- ---- `?:`
either_fits : (b : Bool) (x y : Option ℕ) (w : ℕ) → Below w x → Below w y → Below w (if b then x else y)
either_fits true x y w h k = h
either_fits false x y w h k = k

chosen_fits : (c a b : Option ℕ) (w : ℕ) → Below w a → Below w b → Below w (chosen_value c a b)
chosen_fits None a b w h k = below_none w
chosen_fits (Some c) a b w h k = either_fits (c == 0) b a w k h

chosen_there : (c a b : Option ℕ) → is_none c ≡ false → is_none a ≡ false → is_none b ≡ false → is_none (chosen_value c a b) ≡ false
chosen_there None a b h k l = h
chosen_there (Some c) a b h k l = either_there (c == 0) b a l k

both_chosen : (c a b : Option ℕ) → is_none c ≡ false → is_none a ≡ false → is_none b ≡ false → is_none (chosen_whole c a b) ≡ false
both_chosen c None b h k l = k
both_chosen c (Some a) None h k l = l
both_chosen c (Some a) (Some b) h k l = chosen_there c (Some a) (Some b) h k l

pub choice_sized : (c a b : Sizes) → Sized c → Sized a → Sized b → Sized (of_choice c a b)
choice_sized c a b condition one other h k =
    let branches : a.const_faults ++ b.const_faults ≡ [] = nil_right c.const_faults (a.const_faults ++ b.const_faults) h in
    let widths : a.width_faults ++ b.width_faults ≡ [] = nil_right c.width_faults (a.width_faults ++ b.width_faults) k in
    let no_const : c.const_faults ≡ [] = nil_left c.const_faults (a.const_faults ++ b.const_faults) h in
    let no_width : c.width_faults ≡ [] = nil_left c.width_faults (a.width_faults ++ b.width_faults) k in
    let r : IsSized c = condition no_const no_width in
    let s : IsSized a = one (nil_left a.const_faults b.const_faults branches) (nil_left a.width_faults b.width_faults widths) in
    let t : IsSized b = other (nil_right a.const_faults b.const_faults branches) (nil_right a.width_faults b.width_faults widths) in
    record {
      lawful = larger_lawful a.width b.width s.lawful t.lawful;
      parts = and_from (has_width a) (has_width b) (sized_width a s) (sized_width b t);
      fits = λ w h k. chosen_fits (own c) (a.value w) (b.value w) w (s.fits w (left_fits a.width b.width w h) k)
          (t.fits w (right_fits a.width b.width w h) k);
      known = λ o w. chosen_there (own c) (a.value w) (b.value w) (own_there c r (left_of c.constant (a.constant && b.constant) o))
          (s.known (left_of a.constant b.constant (right_of c.constant (a.constant && b.constant) o)) w)
          (t.known (right_of a.constant b.constant (right_of c.constant (a.constant && b.constant) o)) w);
      whole = λ p. both_chosen (number c) a.whole b.whole (number_there c r (left_of c.constant (a.plain && b.plain) p) no_const no_width)
          (s.whole (left_of a.plain b.plain (right_of c.constant (a.plain && b.plain) p)))
          (t.whole (right_of a.plain b.plain (right_of c.constant (a.plain && b.plain) p)));
    }

pub paren_sized : (line : ℕ) (e : Sizes) → Sized e → Sized (of_paren line e)
paren_sized line e inner h k =
    let s : IsSized e = inner h k in
    record {
      lawful = s.lawful;
      parts = s.parts;
      fits = s.fits;
      known = s.known;
      whole = s.whole;
    }
