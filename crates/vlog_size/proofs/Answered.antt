-- The constant and the width of an expression without a fault, where names are checked and where the scope is lawful.
use Rattle.std.proofs.Common.{◌≡◌, ℕ, ◌+◌, ◌-◌, ◌*◌, ◌/◌, ◌%◌, ◌^◌, ◌<◌, ◌≤◌, Bool, true, false, ◌==◌, ◌&&◌, nat_le, nat_lt, min, max}
use Rattle.std.proofs.Common.{true≢false, if◌then◌else◌}
use Rattle.std.specs.Prelude.{IsSome}
use Rattle.std.proofs.Common.{Option, None, Some, is_none, List, [], refl, ap, sym, ◌∙◌, subst, option_map, arith}
use Rattle.vlog_tree.proofs.vidi_bits_lemmas.Bools.{left_of}
use Rattle.vlog_tree.proofs.vidi_bits_lemmas.FindingLaws.{both_nil}
use Rattle.vlog_tree.proofs.vidi_bits_lemmas.Lists.{nil_left, nil_right}
use Rattle.vlog_tree.specs.declared.expr.NumberKind.{NumberKind}
use Rattle.vlog_tree.specs.declared.expr.NumberKind.TheVariants.{Decimal, Based}
use Rattle.vlog_tree.specs.declared.expr.BinaryOp.{BinaryOp}
use Rattle.vlog_tree.specs.declared.expr.BinaryOp.TheVariants.{ShiftLeft, ShiftRight, Plus, Minus, Times}
use Rattle.vlog_tree.specs.Tree.{ExprOf, UnaryExpr, BinaryExpr, ChoiceExpr, PrimOf, NumberPrim, RefPrim, ParenPrim, ConcatPrim, RepeatPrim}
use Rattle.vlog_tree.specs.Tree.{RefWith, TargetOf}
use Rattle.vlog_size.specs.declared.names.Meaning.{Meaning}
use Rattle.vlog_size.specs.declared.names.Meaning.TheVariants.{Parameter, Place, Undeclared}
use Rattle.vlog_size.specs.Literal.{is_lawful, digits_from}
use Rattle.vlog_size.specs.Operators.{in_range, whole_value}
use Rattle.vlog_size.specs.Names.{Readable, fixed, checked, meaning_of, is_lawful_const, are_lawful_params, is_lawful_readable}
use Rattle.vlog_size.specs.Size.{Sizes, sizes_of, sizes_of_prim, sizes_of_index, sizes_of_last, sizes_of_target, of_ref, number, own}
use Rattle.vlog_size.specs.Size.{own_width, at_width}
use Rattle.vlog_size.specs.Size.{is_sound, faults, decimal_value, const_number, of_two, chosen_value, chosen_whole, constant_at}
use Rattle.vlog_size.specs.Size.{constant_of, of_one, assigned_width, wide_number, assigned_number, Bracket}
use Rattle.vlog_tree.specs.vidi_bits.Number.{IsWidth}
use Rattle.vlog_tree.proofs.vidi_bits_lemmas.Below.{rest_below}
use Rattle.vlog_size.specs.Limits.{TOP}
use Rattle.vlog_size.specs.Facts.{ShowsNumber}
use Rattle.vlog_size.specs.declared.facts.Numbered.{Numbered}
use Rattle.vlog_size.specs.declared.scope.Const.{Const}
use Rattle.vlog_size.specs.declared.scope.Const.TheVariants as const
use Rattle.vlog_size.proofs.Sized.{IsSized, number_there}
use Rattle.vlog_size.proofs.Meanings.{constants_lawful}
use Rattle.vlog_size.proofs.Faultless.{expr_sized, expr_constant, target_sized}
use Rattle.vlog_size.proofs.Alike.{expr_alike, target_alike}

-- ---- values in whole numbers are in range
IsSmall : Option ℕ → Type 0
IsSmall o = (n : ℕ) → o ≡ Some n → nat_le n 2147483647 ≡ true

none_small : IsSmall None
unfolding IsSmall
none_small n h = (cc)

range_small : (m : ℕ) → IsSmall (in_range m)
unfolding IsSmall
range_small m n h = grind arith

branch_small : (b : Bool) (x y : Option ℕ) → IsSmall x → IsSmall y → IsSmall (if b then x else y)
branch_small true x y h k = h
branch_small false x y h k = k

value_small : (op : BinaryOp) (a b : ℕ) → IsSmall (whole_value op a b)
value_small Plus a b = range_small (a + b)
value_small Minus a b = branch_small (nat_le b a) (in_range (a - b)) None (range_small (a - b)) none_small
value_small Times a b = range_small (a * b)
value_small ShiftLeft a b = range_small (a * 2 ^ b)
value_small ShiftRight a b = range_small (a / 2 ^ b)
value_small _ a b = none_small

two_small : (op : BinaryOp) (a b : Option ℕ) → IsSmall (of_two (whole_value op) a b)
two_small op None b = none_small
two_small op (Some a) None = none_small
two_small op (Some a) (Some b) = value_small op a b

value_chosen : (c a b : Option ℕ) → IsSmall a → IsSmall b → IsSmall (chosen_value c a b)
value_chosen None a b h k = none_small
value_chosen (Some c) a b h k = branch_small (c == 0) b a k h

choice_small : (c a b : Option ℕ) → IsSmall a → IsSmall b → IsSmall (chosen_whole c a b)
choice_small c None b h k = none_small
choice_small c (Some a) None h k = none_small
choice_small c (Some a) (Some b) h k = value_chosen c (Some a) (Some b) h k

decimal_small : (kind : NumberKind) (text : List ℕ) → IsSmall (decimal_value kind text)
decimal_small Decimal text = range_small (digits_from 10 0 text)
decimal_small Based text = none_small

ref_small : (line : ℕ) (m : Meaning) (index : Option Sizes) (last : Bracket) → IsSmall (of_ref line m index last).whole
ref_small line (Parameter c known) index last =
    branch_small known (in_range (const_number c)) None (range_small (const_number c)) none_small
ref_small line (Place width picked limit) None last = none_small
ref_small line (Place width picked limit) (Some i) last = none_small
ref_small line Undeclared index last = none_small

mutual
  whole_small : (s : Readable) (e : ExprOf ℕ) → IsSmall (sizes_of s e).whole
  whole_small s (UnaryExpr None prim) = prim_small s prim
  whole_small s (UnaryExpr (Some sign) prim) = none_small
  whole_small s (BinaryExpr a op b) = two_small op (sizes_of s a).whole (sizes_of s b).whole
  whole_small s (ChoiceExpr c a b) =
      choice_small (number (sizes_of s c)) (sizes_of s a).whole (sizes_of s b).whole (whole_small s a) (whole_small s b)

  prim_small : (s : Readable) (p : PrimOf ℕ) → IsSmall (sizes_of_prim s p).whole
  prim_small s (NumberPrim n) = decimal_small n.kind n.text
  prim_small s (RefPrim (RefWith id index last)) = ref_small id.line (meaning_of s id.name) (sizes_of_index s index) (sizes_of_last s last)
  prim_small s (ParenPrim line e) = whole_small s e
  prim_small s (ConcatPrim line es) = none_small
  prim_small s (RepeatPrim line count es) = none_small

-- ---- the constant
-- the number of an expression that isn't plain is its value at its own width
own_value : (b : Bool) (value : ℕ → Option ℕ) (w n : ℕ) → at_width value (if b then Some w else None) ≡ Some n → value w ≡ Some n
own_value true value w n h = h
own_value false value w n h = (cc)

sized_number : (p s : Bool) (whole own : Option ℕ) (n : ℕ) → p ≡ false → (if p then whole else (if s then own else None)) ≡ Some n
    → own ≡ Some n
sized_number true s whole own n p h = (cc)
sized_number false true whole own n p h = h
sized_number false false whole own n p h = (cc)

pub own_number : (e : Sizes) (n : ℕ) → e.plain ≡ false → number e ≡ Some n → e.value e.width ≡ Some n
unfolding number own own_width
own_number e n p h =
    own_value (e.constant && is_lawful e.width) e.value e.width n
    (sized_number e.plain (is_sound e) e.whole (own e) n p h)

plain_number : (p s : Bool) (whole own : Option ℕ) (n : ℕ) → p ≡ true → (if p then whole else (if s then own else None)) ≡ Some n
    → whole ≡ Some n
plain_number true s whole own n p h = h
plain_number false s whole own n p h = (cc)

pub whole_number : (e : Sizes) (n : ℕ) → e.plain ≡ true → number e ≡ Some n → e.whole ≡ Some n
unfolding number
whole_number e n p h = plain_number e.plain (is_sound e) e.whole (own e) n p h

pub within : (w v : ℕ) → is_lawful w ≡ true → v ≡ min w TOP → v ≡ w
within w v l h = grind arith

pub narrow : (w : ℕ) → is_lawful w ≡ true → w < 2 ^ 32
narrow w l = grind arith

lawful_width : (w : ℕ) → is_lawful w ≡ true → w ≤ 128
lawful_width w h = grind arith

sized_lawful : (w n : ℕ) → is_lawful w ≡ true → n < 2 ^ w → (is_lawful w && nat_lt n (2 ^ w)) ≡ true
sized_lawful w n h l = rw h (grind arith)

const_at : (p : Bool) (w n : ℕ) → is_lawful w ≡ true → (p ≡ true → nat_le n 2147483647 ≡ true) → (p ≡ false → n < 2 ^ w)
    → is_lawful_const (constant_at p w n) ≡ true
const_at true w n l small fits = small refl
const_at false w n l small fits = sized_lawful w n l (fits refl)

number_lawful : (e : Sizes) (n : ℕ) → IsSized e → IsSmall e.whole → number e ≡ Some n
    → is_lawful_const (constant_at e.plain e.width n) ≡ true
unfolding IsSmall
number_lawful e n s small h =
    const_at e.plain e.width n s.lawful
    (λ (p : e.plain ≡ true). small n (whole_number e n p h))
    (λ (p : e.plain ≡ false). s.fits e.width (omega arith) (lawful_width e.width s.lawful) n (own_number e n p h))

-- a number, which makes a lawful constant
abbrev pub HasConstant : Sizes → Option ℕ → Type 0
HasConstant e None = ⊥
HasConstant e (Some n) = is_lawful_const (constant_at e.plain e.width n) ≡ true

has_constant : (e : Sizes) (o : Option ℕ) → IsSized e → IsSmall e.whole → number e ≡ o → is_none o ≡ false → HasConstant e o
has_constant e None s small h there = (cc)
has_constant e (Some n) s small h there = number_lawful e n s small h

pub faultless_constant : (r : Readable) (e : ExprOf ℕ) → faults (sizes_of (fixed (checked r)) e) ≡ []
    → HasConstant (sizes_of (fixed (checked r)) e) (number (sizes_of (fixed (checked r)) e))
unfolding faults
faultless_constant r e h =
    let found = sizes_of (fixed (checked r)) e in
    let no_const : found.const_faults ≡ [] = nil_left found.const_faults found.width_faults h in
    let no_width : found.width_faults ≡ [] = nil_right found.const_faults found.width_faults h in
    let sized : IsSized found = expr_sized (fixed r) e no_const no_width in
    has_constant found (number found) sized (whole_small (fixed (checked r)) e) refl
    (number_there found sized (expr_constant (checked r) e no_const) no_const no_width)

constant_there : (e : Sizes) (o : Option ℕ) → HasConstant e o → number e ≡ o
    → (c : Const) × (constant_of e ≡ Some c) × (is_lawful_const c ≡ true)
unfolding constant_of
constant_there e None has h = absurd has
constant_there e (Some n) has h = (constant_at e.plain e.width n, ap (option_map (constant_at e.plain e.width)) h, has)

pub lawful_constant : (r : Readable) (e : ExprOf ℕ) → are_lawful_params r.constants ≡ true → faults (sizes_of (fixed r) e) ≡ []
    → (c : Const) × (constant_of (sizes_of (fixed r) e) ≡ Some c) × (is_lawful_const c ≡ true)
lawful_constant r e l =
    let P : Sizes → Type 0 = λ s. faults s ≡ [] → (c : Const) × (constant_of s ≡ Some c) × (is_lawful_const c ≡ true) in
    let found = sizes_of (fixed (checked r)) e in
    subst P (expr_alike (fixed r) (constants_lawful r l) e)
    (λ (h : faults found ≡ []). constant_there found (number found) (faultless_constant r e h) refl)

checked_parts : (r : Readable) (e : ExprOf ℕ) → faults (sizes_of (fixed (checked r)) e) ≡ []
    → (sizes_of (fixed (checked r)) e).parts_lawful ≡ true
unfolding faults
checked_parts r e h =
    let found = sizes_of (fixed (checked r)) e in
    let sized : IsSized found = expr_sized (fixed r) e (nil_left found.const_faults found.width_faults h)
    (nil_right found.const_faults found.width_faults h) in
    sized.parts

pub lawful_parts : (r : Readable) (e : ExprOf ℕ) → are_lawful_params r.constants ≡ true → faults (sizes_of (fixed r) e) ≡ []
    → (sizes_of (fixed r) e).parts_lawful ≡ true
lawful_parts r e l =
    let P : Sizes → Type 0 = λ s. faults s ≡ [] → s.parts_lawful ≡ true in
    subst P (expr_alike (fixed r) (constants_lawful r l) e) (checked_parts r e)

-- ---- the number that some bits have
assigned_there : (value : ℕ → Option ℕ) (c l : Bool) (w : ℕ) → c ≡ true → l ≡ true → is_none (value w) ≡ false
    → is_none (at_width value (if c && l then Some w else None)) ≡ false
assigned_there value true true w h k there = there
assigned_there value true false w h k there = (cc)
assigned_there value false l w h k there = (cc)

pick : (p s : Bool) (a b : Option ℕ) → (p ≡ true → is_none a ≡ false) → s ≡ true → is_none b ≡ false
    → is_none (if p then a else (if s then b else None)) ≡ false
pick true s a b h k there = h refl
pick false true a b h k there = there
pick false false a b h k there = (cc)

cut : (w : ℕ) (o : Option ℕ) → is_none o ≡ false → (n : ℕ) × (of_one (λ (m : ℕ). m % 2 ^ w) o ≡ Some n) × (n < 2 ^ w)
cut w None h = absurd (true≢false h)
cut w (Some m) h = (m % 2 ^ w, refl, rest_below m w)

wide_there : (w : ℕ) (e : Sizes) → IsSized e → e.constant ≡ true → e.const_faults ≡ [] → e.width_faults ≡ []
    → is_none (wide_number w e) ≡ false
wide_there w e s c h k =
    pick e.plain (is_sound e) e.whole (at_width e.value (assigned_width w e)) s.whole (both_nil e.const_faults e.width_faults h k)
    (assigned_there e.value e.constant (is_lawful e.width) (max w e.width) c s.lawful (s.known c (max w e.width)))

checked_assigned : (r : Readable) (e : ExprOf ℕ) (w : ℕ) → faults (sizes_of (fixed (checked r)) e) ≡ []
    → (n : ℕ) × (assigned_number w (sizes_of (fixed (checked r)) e) ≡ Some n) × (n < 2 ^ w)
unfolding faults assigned_number
checked_assigned r e w h =
    let found = sizes_of (fixed (checked r)) e in
    let no_const : found.const_faults ≡ [] = nil_left found.const_faults found.width_faults h in
    let no_width : found.width_faults ≡ [] = nil_right found.const_faults found.width_faults h in
    let sized : IsSized found = expr_sized (fixed r) e no_const no_width in
    cut w (wide_number w found) (wide_there w found sized (expr_constant (checked r) e no_const) no_const no_width)

pub lawful_assigned : (r : Readable) (e : ExprOf ℕ) (w : ℕ) → IsWidth w → are_lawful_params r.constants ≡ true
    → faults (sizes_of (fixed r) e) ≡ []
    → (n : ℕ) × (assigned_number w (sizes_of (fixed r) e) ≡ Some n) × (n < 2 ^ w)
lawful_assigned r e w b l =
    let P : Sizes → Type 0 = λ s. faults s ≡ [] → (n : ℕ) × (assigned_number w s ≡ Some n) × (n < 2 ^ w) in
    subst P (expr_alike (fixed r) (constants_lawful r l) e) (checked_assigned r e w)

-- what the code answers of an expression with the number n
pub record IsFound (f : Numbered) (e : Sizes) (n : ℕ) : Type 0 where
  pub room : (if f.facts.plain then n else f.facts.width) < 2 ^ 32
  pub same : constant_of e ≡ Some (constant_at f.facts.plain f.facts.width n)
  pub lawful : is_lawful_const (constant_at f.facts.plain f.facts.width n) ≡ true

sized_width : (w v n : ℕ) → v ≡ min w TOP → (is_lawful w && nat_lt n (2 ^ w)) ≡ true → v ≡ w
sized_width w v n h l = let lawful : is_lawful w ≡ true = left_of (is_lawful w) (nat_lt n (2 ^ w)) l in within w v lawful h

same_constant : (p : Bool) (w v n : ℕ) → v ≡ min w TOP → is_lawful_const (constant_at p w n) ≡ true → constant_at p v n ≡ constant_at p w n
same_constant true w v n h l = refl
same_constant false w v n h l = ap (λ (u : ℕ). const.Sized u n) (sized_width w v n h l)

room_for : (p : Bool) (w n : ℕ) → is_lawful_const (constant_at p w n) ≡ true → (if p then n else w) < 2 ^ 32
room_for true w n l = grind arith
room_for false w n l = let lawful : is_lawful w ≡ true = left_of (is_lawful w) (nat_lt n (2 ^ w)) l in grind arith

pub found_constant : (f : Numbered) (e : Sizes) (n : ℕ) → ShowsNumber f e → HasConstant e (number e) → f.number ≡ Some n → IsFound f e n
unfolding constant_of
found_constant f e n s has h =
    let there : number e ≡ Some n = sym s.number ∙ h in
    let P : Option ℕ → Type 0 = λ o. HasConstant e o in
    let own : is_lawful_const (constant_at e.plain e.width n) ≡ true = subst P there has in
    let same : constant_at f.facts.plain f.facts.width n ≡ constant_at e.plain e.width n =
    ap (λ (p : Bool). constant_at p f.facts.width n) s.facts.plain ∙ same_constant e.plain e.width f.facts.width n s.facts.width own in
    let lawful : is_lawful_const (constant_at f.facts.plain f.facts.width n) ≡ true = ap is_lawful_const same ∙ own in
    record {
      room = room_for f.facts.plain f.facts.width n lawful;
      same = ap (option_map (constant_at e.plain e.width)) there ∙ ap (λ (k : Const). Some k) (sym same);
      lawful = lawful;
    }

some_number : (e : Sizes) (o : Option ℕ) → HasConstant e o → IsSome o
some_number e None has = absurd has
some_number e (Some n) has = refl

pub has_number : (f : Numbered) (e : Sizes) → ShowsNumber f e → HasConstant e (number e) → IsSome f.number
has_number f e s has =
    let P : Option ℕ → Type 0 = λ o. HasConstant e o in some_number e f.number (subst P (sym s.number) has)

-- ---- the width
pub faultless_width : (r : Readable) (e : ExprOf ℕ) → faults (sizes_of (checked r) e) ≡ []
    → is_lawful (sizes_of (checked r) e).width ≡ true
unfolding faults
faultless_width r e h =
    let found = sizes_of (checked r) e in
    let sized : IsSized found =
    expr_sized r e (nil_left found.const_faults found.width_faults h) (nil_right found.const_faults found.width_faults h) in
    sized.lawful

pub faultless_target : (r : Readable) (t : TargetOf ℕ) → faults (sizes_of_target (checked r) t) ≡ []
    → is_lawful (sizes_of_target (checked r) t).width ≡ true
unfolding faults
faultless_target r t h =
    let found = sizes_of_target (checked r) t in
    let sized : IsSized found =
    target_sized r t (nil_left found.const_faults found.width_faults h) (nil_right found.const_faults found.width_faults h) in
    sized.lawful

pub lawful_width_of : (r : Readable) (e : ExprOf ℕ) → is_lawful_readable r ≡ true → faults (sizes_of r e) ≡ []
    → is_lawful (sizes_of r e).width ≡ true
lawful_width_of r e l =
    let P : Sizes → Type 0 = λ s. faults s ≡ [] → is_lawful s.width ≡ true in
    subst P (expr_alike r l e) (faultless_width r e)

pub lawful_target_of : (r : Readable) (t : TargetOf ℕ) → is_lawful_readable r ≡ true → faults (sizes_of_target r t) ≡ []
    → is_lawful (sizes_of_target r t).width ≡ true
lawful_target_of r t l =
    let P : Sizes → Type 0 = λ s. faults s ≡ [] → is_lawful s.width ≡ true in
    subst P (target_alike r l t) (faultless_target r t)
