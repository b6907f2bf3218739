-- The code of an expression gives its number.
use Rattle.std.proofs.Common.{◌≡◌, ℕ, ◌+◌, ◌%◌, ◌^◌, ◌<◌, ◌≤◌, ◌==◌, nat_lt, Bool, true, false, if◌then◌else◌}
use Rattle.std.proofs.Common.{List, [], ◌∷◌, ◌++◌, length, take, slice_index, slice_set, refl, ap, sym, subst, ◌∙◌, arith}
use Rattle.std.proofs.Math.Nat.{div-one, mod-eq_of_lt}
use Rattle.std.proofs.lemmas.Bool.{eqb-true, ltb-true, and_parts}
use Rattle.std.proofs.lemmas.List.{get_or-set_same, length-set, take-set-le}
use Rattle.net_design.specs.vidi_bits.Number.{part_of, repeated, side_by_side}
use Rattle.net_design.specs.vidi_bits.Operators.{unary_number, binary_number}
use Rattle.net_design.specs.vidi_bits.declared.operators.UnaryOp.{UnaryOp}
use Rattle.net_design.specs.vidi_bits.declared.operators.UnaryOp.TheVariants.{Negate, Complement, LogicalNot, ReduceAnd, ReduceNand, ReduceOr}
use Rattle.net_design.specs.vidi_bits.declared.operators.UnaryOp.TheVariants.{ReduceNor, ReduceXor, ReduceXnor}
use Rattle.net_design.specs.vidi_bits.declared.operators.BinaryOp.{BinaryOp}
use Rattle.net_design.specs.vidi_bits.declared.operators.BinaryOp.TheVariants.{Add, Subtract, Multiply, And, Or, Xor, Xnor, ShiftLeft}
use Rattle.net_design.specs.vidi_bits.declared.operators.BinaryOp.TheVariants.{ShiftRight, Less, LessEqual, Greater, GreaterEqual, Equal}
use Rattle.net_design.specs.vidi_bits.declared.operators.BinaryOp.TheVariants.{NotEqual, LogicalAnd, LogicalOr}
use Rattle.net_design.specs.declared.rhs.Span.{Span}
use Rattle.net_design.specs.declared.rhs.Room.{Room}
use Rattle.net_design.specs.declared.rhs.Rhs.{Rhs, Number, Bits, Word', Unary', Binary', Choose', Join', Repeat', Select'}
use Rattle.net_design.specs.declared.values.Values.{Values}
use Rattle.net_design.specs.Value.{read, word_at, value}
use Rattle.net_instr.specs.declared.instr.Step.{Step}
use Rattle.net_instr.specs.declared.instr.Step.TheVariants as S
use Rattle.net_instr.specs.declared.instr.Instr.{Instr}
use Rattle.net_instr.specs.declared.instr.Instr.TheVariants.{Do}
use Rattle.net_instr.specs.Machine.{number_of, AreBelow}
use Rattle.net_instr.specs.Layout.{base, shown, IsReady}
use Rattle.net_instr.specs.Expressions.{unary_step, binary_step, is_whole, slot, step, taken, below, IsRhsThere}
use Rattle.net_instr.proofs.Running.{RunsTo, runs_nothing, runs_then, runs_do, first_below, last_below}
use Rattle.net_instr.proofs.Views.{kept, kept_less, net_at, word_here, same_shown, same_ready}

-- ---- steps of operators
pub unary_right : (op : UnaryOp) (a w : ℕ) (s : List ℕ) → number_of (unary_step op a w) s ≡ unary_number op (slice_index s a) w
unary_right Negate a w s = refl
unary_right Complement a w s = refl
unary_right LogicalNot a w s = refl
unary_right ReduceAnd a w s = refl
unary_right ReduceNand a w s = refl
unary_right ReduceOr a w s = refl
unary_right ReduceNor a w s = refl
unary_right ReduceXor a w s = refl
unary_right ReduceXnor a w s = refl

pub binary_right : (op : BinaryOp) (a b w : ℕ) (s : List ℕ)
    → number_of (binary_step op a b w) s ≡ binary_number op (slice_index s a) (slice_index s b) w
binary_right Add a b w s = refl
binary_right Subtract a b w s = refl
binary_right Multiply a b w s = refl
binary_right And a b w s = refl
binary_right Or a b w s = refl
binary_right Xor a b w s = refl
binary_right Xnor a b w s = refl
binary_right ShiftLeft a b w s = refl
binary_right ShiftRight a b w s = refl
binary_right Less a b w s = refl
binary_right LessEqual a b w s = refl
binary_right Greater a b w s = refl
binary_right GreaterEqual a b w s = refl
binary_right Equal a b w s = refl
binary_right NotEqual a b w s = refl
binary_right LogicalAnd a b w s = refl
binary_right LogicalOr a b w s = refl

-- all bits of a number that fits
pub whole_part : (x low w : ℕ) → low ≡ 0 → x < 2 ^ w → part_of x low w ≡ x
whole_part x low w e l = ap (λ k. part_of x k w) e ∙ ap (λ y. y % 2 ^ w) (div-one x) ∙ mod-eq_of_lt l

word_or : (b : Bool) (x y : ℕ) → (b ≡ true → x ≡ y) → (if b then x else 0) ≡ (if b then y else 0)
word_or true x y h = h refl
word_or false x y h = refl

-- ---- what code does
-- the code gives number x by the step that is left, and keeps the slots below t
pub record Gives (t : ℕ) (code : List Instr) (last : Step) (x : ℕ) (s : List ℕ) : Type 0 where
  pub after : List ℕ
  pub runs : RunsTo code s after
  pub keeps : take t after ≡ take t s
  pub long : length after ≡ length s
  pub gives : number_of last after ≡ x

-- the code leaves x in slot k, which is at most t
pub record Leaves (t : ℕ) (code : List Instr) (k x : ℕ) (s : List ℕ) : Type 0 where
  pub after : List ℕ
  pub runs : RunsTo code s after
  pub keeps : take t after ≡ take t s
  pub long : length after ≡ length s
  pub holds : slice_index after k ≡ x
  pub low : k < t + 1

record LeavesTwo (t : ℕ) (code : List Instr) (k l x y : ℕ) (s : List ℕ) : Type 0 where
  after : List ℕ
  runs : RunsTo code s after
  keeps : take t after ≡ take t s
  long : length after ≡ length s
  first : slice_index after k ≡ x
  second : slice_index after l ≡ y
  low : k < t + 2
  lower : l < t + 2

pub pushed : (t : ℕ) (code : List Instr) (last : Step) (x : ℕ) (s : List ℕ) → t < length s → Gives t code last x s
    → Leaves t (Do t last ∷ code) t x s
pushed t code last x s l g =
    let y = number_of last g.after in
    record {
      after = slice_set g.after t y;
      runs = runs_do code t last s g.after g.runs;
      keeps = take-set-le t g.after t y (omega arith) ∙ g.keeps;
      long = length-set g.after t y ∙ g.long;
      holds = get_or-set_same g.after t y 0 (let e = g.long in omega (arith, e, l)) ∙ g.gives;
      low = omega arith;
    }

standing : (b : Bool) (t net x : ℕ) (cut : Step) (s : List ℕ)
    → AreBelow (length s) ((if b then [] else Do t (if b then S.Copy net else cut) ∷ []) ++ []) → net < t
    → Gives t [] (if b then S.Copy net else cut) x s
    → Leaves t ((if b then [] else Do t (if b then S.Copy net else cut) ∷ []) ++ []) (if b then net else t) x s
standing true t net x cut s l h g = record {
  after = g.after;
  runs = g.runs;
  keeps = g.keeps;
  long = g.long;
  holds = g.gives;
  low
      = omega (arith, h);
}
standing false t net x cut s l h g = pushed t [] cut x s l.0 g

gives_one : (t : ℕ) (code : List Instr) (k x : ℕ) (s : List ℕ) (last : Step) (f : ℕ → ℕ)
    → ((u : List ℕ) → number_of last u ≡ f (slice_index u k)) → Leaves t code k x s → Gives t code last (f x) s
gives_one t code k x s last f h a =
    record { after = a.after; runs = a.runs; keeps = a.keeps; long = a.long; gives = h a.after ∙ ap f a.holds }

two : (t : ℕ) (c d : List Instr) (k l x y : ℕ) (s : List ℕ) → (a : Leaves t c k x s) → Leaves (t + 1) d l y a.after
    → LeavesTwo t (d ++ c) k l x y s
two t c d k l x y s a b =
    record {
      after = b.after;
      runs = runs_then c d s a.after b.after a.runs b.runs;
      keeps = kept_less t (t + 1) a.after b.after (omega arith) b.keeps ∙ a.keeps;
      long = b.long ∙ a.long;
      first = kept (t + 1) k a.after b.after b.keeps a.low ∙ a.holds;
      second = b.holds;
      low = let h = a.low in omega (arith, h);
      lower = let h = b.low in omega (arith, h);
    }

gives_two : (t : ℕ) (code : List Instr) (k l x y : ℕ) (s : List ℕ) (last : Step) (f : ℕ → ℕ → ℕ)
    → ((u : List ℕ) → number_of last u ≡ f (slice_index u k) (slice_index u l)) → LeavesTwo t code k l x y s → Gives t code last (f x y) s
gives_two t code k l x y s last f h a =
    record {
      after = a.after;
      runs = a.runs;
      keeps = a.keeps;
      long = a.long;
      gives = h a.after ∙ ap (λ m. f m (slice_index a.after l)) a.first ∙ ap (f x) a.second;
    }

gives_three : (t : ℕ) (c d : List Instr) (k l m x y z : ℕ) (s : List ℕ) (last : Step) (f : ℕ → ℕ → ℕ → ℕ)
    → ((u : List ℕ) → number_of last u ≡ f (slice_index u k) (slice_index u l) (slice_index u m)) → (a : LeavesTwo t c k l x y s)
    → Leaves (t + 2) d m z a.after → Gives t (d ++ c) last (f x y z) s
gives_three t c d k l m x y z s last f h a b =
    let u = b.after in
    record {
      after = u;
      runs = runs_then c d s a.after u a.runs b.runs;
      keeps = kept_less t (t + 2) a.after u (omega arith) b.keeps ∙ a.keeps;
      long = b.long ∙ a.long;
      gives = h u
          ∙ ap (λ i. f i (slice_index u l) (slice_index u m)) (kept (t + 2) k a.after u b.keeps a.low ∙ a.first)
          ∙ ap (λ i. f x i (slice_index u m)) (kept (t + 2) l a.after u b.keeps a.lower ∙ a.second)
          ∙ ap (f x y) b.holds;
    }

-- ---- expressions
module _ (widths : List ℕ) (W : ℕ) where
  abbrev pub code_of : Rhs → ℕ → List Instr
  code_of e t = taken widths e t ++ below widths e t

  abbrev pub IsRight : Rhs → Type 0
  IsRight e = (t : ℕ) (s : List ℕ) → base widths W ≤ t → AreBelow (length s) (below widths e t) → IsReady widths W s
      → Gives t (below widths e t) (step widths e t) (value e (shown widths W s)) s

  -- the code below an operand is right, and so is the operand
  pub operand : (e : Rhs) (t : ℕ) (s : List ℕ) → IsRhsThere widths W e → IsRight e → base widths W ≤ t → AreBelow (length s) (code_of e t)
      → IsReady widths W s → Leaves t (code_of e t) (slot widths e t) (value e (shown widths W s)) s
  operand (Number n) t s h f l i r = pushed t _ _ _ s i.0 (f t s l i.1 r)
  operand (Bits p) t s h f l i r =
      let there : p.net < length widths = h.1.0 in
      standing (is_whole widths p) t p.net (read p (shown widths W s)) (S.Slice p.net p.low p.width) s i (omega
      (arith, there, l)) (f t s l tt r)
  operand (Word' q p j) t s h f l i r = pushed t _ _ _ s i.0 (f t s l i.1 r)
  operand (Unary' op p a w) t s h f l i r = pushed t _ _ _ s i.0 (f t s l i.1 r)
  operand (Binary' op p a q b w) t s h f l i r = pushed t _ _ _ s i.0 (f t s l i.1 r)
  operand (Choose' p c q a o b) t s h f l i r = pushed t _ _ _ s i.0 (f t s l i.1 r)
  operand (Join' p high q low y z) t s h f l i r = pushed t _ _ _ s i.0 (f t s l i.1 r)
  operand (Repeat' n p a w) t s h f l i r = pushed t _ _ _ s i.0 (f t s l i.1 r)
  operand (Select' p a q j w) t s h f l i r = pushed t _ _ _ s i.0 (f t s l i.1 r)

  -- an operand that is found after others, at slots that kept the numbers of the design
  pub later : (e : Rhs) (t k : ℕ) (s u : List ℕ) → IsRhsThere widths W e → IsRight e → base widths W ≤ t → t ≤ k
      → AreBelow (length s) (code_of e k) → IsReady widths W s → take t u ≡ take t s → length u ≡ length s
      → Leaves k (code_of e k) (slot widths e k) (value e (shown widths W s)) u
  later e t k s u h right l m i r same long =
      subst (λ v. Leaves k (code_of e k) (slot widths e k) (value e v) u)
      (same_shown widths W t s u (omega (arith, l)) same)
      (operand e k u h right (omega (arith, l, m)) (subst (λ j. AreBelow j (code_of e k)) (sym long) i)
      (same_ready widths W t s u l same long r))

  both : (a b : Rhs) (t : ℕ) (s : List ℕ) → IsRhsThere widths W a → IsRhsThere widths W b → IsRight a → IsRight b → base widths W ≤ t
      → AreBelow (length s) (code_of b (t + 1) ++ code_of a t) → IsReady widths W s
      → LeavesTwo t (code_of b (t + 1) ++ code_of a t) (slot widths a t) (slot widths b (t + 1))
      (value a (shown widths W s)) (value b (shown widths W s)) s
  both a b t s ha hb fa fb l i r =
      let x = operand a t s ha fa l (last_below (length s) (code_of b (t + 1)) (code_of a t) i) r in
      two t (code_of a t) (code_of b (t + 1)) (slot widths a t) (slot widths b (t + 1)) (value a (shown widths W s))
      (value b (shown widths W s)) s x
      (later b t (t + 1) s x.after hb fb l (omega arith) (first_below (length s) (code_of b (t + 1)) (code_of a t) i) r x.keeps x.long)

  whole_number : (b : Bool) (p : Span) (s : List ℕ) → b ≡ is_whole widths p → p.net < length widths → IsReady widths W s
      → number_of (if b then S.Copy p.net else S.Slice p.net p.low p.width) s ≡ read p (shown widths W s)
  whole_number true p s e l r =
      let parts = and_parts (p.low == 0) (p.width == slice_index widths p.net) (sym e) in
      let here = net_at (length widths) W p.net s l in
      let wide : p.width ≡ slice_index widths p.net = eqb-true _ _ parts.1 in
      let fits : slice_index (shown widths W s).nets p.net < 2 ^ p.width = subst (λ w. slice_index
      (shown widths W s).nets p.net < 2 ^ w) (sym wide)
      (r.shown_fits p.net l) in
      sym here ∙ sym (whole_part (slice_index (shown widths W s).nets p.net) p.low p.width (eqb-true _ _ parts.0) fits)
  whole_number false p s e l r = ap (λ x. part_of x p.low p.width) (sym (net_at (length widths) W p.net s l))

  -- the number of a word, where its index stands in slot k
  word_number : (room : Room) (k i : ℕ) (s u : List ℕ) → room.first + room.length ≤ W → slice_index u k ≡ i
      → shown widths W u ≡ shown widths W s
      → number_of (S.Word (length widths + room.first) room.length k) u ≡ word_at room i (shown widths W s)
  word_number room k i s u h e same =
      ap (λ j. if nat_lt j room.length then slice_index u (length widths + room.first + j) else 0) e
      ∙ word_or (nat_lt i room.length) (slice_index u (length widths + room.first + i)) (slice_index (shown widths W s).words
      (room.first + i))
      (λ b.
      let l : i < room.length = ltb-true _ _ b in
      let place : length widths + room.first + i ≡ length widths + (room.first + i) = omega arith in
      ap (slice_index u) place
      ∙ sym (word_here (length widths) W (room.first + i) u (omega (arith, l, h)))
      ∙ ap (λ (v : Values). slice_index v.words (room.first + i)) same)

  gives_word : (room : Room) (t k i : ℕ) (code : List Instr) (s : List ℕ) → room.first + room.length ≤ W → base widths W ≤ t
      → Leaves t code k i s → Gives t code (S.Word (length widths + room.first) room.length k) (word_at room i (shown widths W s)) s
  gives_word room t k i code s h l a =
      record {
        after = a.after;
        runs = a.runs;
        keeps = a.keeps;
        long = a.long;
        gives = word_number room k i s a.after h a.holds (same_shown widths W t s a.after (omega (arith, l)) a.keeps);
      }

  pub lowered : (e : Rhs) → IsRhsThere widths W e → IsRight e
  lowered (Number n) h = λ t s l i r. record { after = s; runs = runs_nothing s; keeps = refl; long = refl; gives = refl }
  lowered (Bits p) h = λ t s l i r. record {
    after = s;
    runs = runs_nothing s;
    keeps = refl;
    long = refl;
    gives = whole_number (is_whole widths p) p s refl h.1.0 r;
  }
  lowered (Word' room p j) h = λ t s l i r.
      gives_word room t (slot widths j t) (value j (shown widths W s)) (code_of j t) s h.0.0 l (operand j t s h.1 (lowered j h.1) l i r)
  lowered (Unary' op p a w) h = λ t s l i r.
      gives_one t (code_of a t) (slot widths a t) (value a (shown widths W s)) s _ (λ x. unary_number op x w)
      (λ u. unary_right op (slot widths a t) w u) (operand a t s h.1 (lowered a h.1) l i r)
  lowered (Binary' op p a q b w) h = λ t s l i r.
      gives_two t _ (slot widths a t) (slot widths b (t + 1)) (value a (shown widths W s)) (value b (shown widths W s)) s _
      (λ x y. binary_number op x y w) (λ u. binary_right op (slot widths a t) (slot widths b (t + 1)) w u)
      (both a b t s h.1 h.2 (lowered a h.1) (lowered b h.2) l i r)
  lowered (Choose' p c q a o b) h = λ t s l i r.
      let pair : List Instr = code_of a (t + 1) ++ code_of c t in
      let x = both c a t s h.0 h.1 (lowered c h.0) (lowered a h.1) l (last_below (length s) (code_of b (t + 2)) pair i) r in
      gives_three t pair (code_of b (t + 2)) (slot widths c t) (slot widths a (t + 1)) (slot widths b (t + 2)) (value c (shown widths W s))
      (value a (shown widths W s)) (value b (shown widths W s)) s _ (λ x y z. if x == 0 then z else y) (λ u. refl) x
      (later b t (t + 2) s x.after h.2 (lowered b h.2) l (omega arith) (first_below (length s) (code_of b (t + 2)) pair i) r x.keeps x.long)
  lowered (Join' p high q low y z) h = λ t s l i r.
      gives_two t _ (slot widths high t) (slot widths low (t + 1)) (value high (shown widths W s)) (value low (shown widths W s)) s _
      (λ a b. side_by_side a b y z) (λ u. refl) (both high low t s h.3 h.4 (lowered high h.3) (lowered low h.4) l i r)
  lowered (Repeat' n p a w) h = λ t s l i r.
      gives_one t (code_of a t) (slot widths a t) (value a (shown widths W s)) s _ (λ x. repeated n x w) (λ u. refl)
      (operand a t s h.3 (lowered a h.3) l i r)
  lowered (Select' p a q j w) h = λ t s l i r.
      gives_two t _ (slot widths a t) (slot widths j (t + 1)) (value a (shown widths W s)) (value j (shown widths W s)) s _
      (λ x y. part_of x y w) (λ u. refl) (both a j t s h.1 h.2 (lowered a h.1) (lowered j h.2) l i r)
