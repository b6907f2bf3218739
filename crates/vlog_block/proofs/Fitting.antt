-- Where names are checked, an expression without a fault has parts of lawful widths.
use Rattle.std.proofs.Common.{◌≡◌, ℕ, zero, suc, ◌+◌, ◌-◌, ◌*◌, ◌≤◌, Bool, if◌then◌else◌, true, false, not, ◌&&◌, Option, None, Some}
use Rattle.std.proofs.Common.{option_map}
use Rattle.std.proofs.Common.{List, [], ◌++◌, refl, subst, arith}
use Rattle.std.proofs.Math.Nat.{mul-zero, zero-mul, one-mul, mul-le-mul_right, le-mul_of_pos_right}
use Rattle.std.proofs.lemmas.Bool.{not-false}
use Rattle.vlog_size.proofs.vidi_bits_lemmas.FindingLaws.{told_none}
use Rattle.vlog_size.proofs.vidi_bits_lemmas.Lists.{nil_left, nil_right}
use Rattle.vlog_tree.specs.Tree.{ExprOf, UnaryExpr, BinaryExpr, ChoiceExpr, ExprsOf, NoExprs, MoreExprs}
use Rattle.vlog_tree.specs.Tree.{PrimOf, NumberPrim, RefPrim, ParenPrim, ConcatPrim, RepeatPrim, RefOf, RefWith, IndexOf}
use Rattle.vlog_tree.specs.Tree.{NoIndex, Index}
use Rattle.vlog_tree.specs.Tree.{LastOf, NoLast, Last, SelOf, IndexSel, PartSel, IndexedSel}
use Rattle.vlog_size.specs.vidi_bits.Findings.{told_if, or_first}
use Rattle.vlog_size.specs.vidi_bits.Number.{IsWidth}
use Rattle.vlog_tree.specs.Tree.{TargetOf, RefTarget, ConcatTarget, TargetsOf, NoTargets, MoreTargets}
use Rattle.vlog_size.specs.declared.error.SizeError.{SizeError}
use Rattle.vlog_size.specs.declared.error.SizeError.TheVariants as error
use Rattle.vlog_size.specs.declared.scope.Param.{Param}
use Rattle.vlog_size.specs.declared.scope.ScopeNet.{ScopeNet}
use Rattle.vlog_size.specs.declared.scope.ScopeMemory.{ScopeMemory}
use Rattle.vlog_size.specs.declared.scope.Scope.{Scope}
use Rattle.vlog_size.specs.declared.names.Meaning.{Meaning}
use Rattle.vlog_size.specs.Table.{Named, value_of, place_of}
use Rattle.vlog_size.specs.Literal.{is_lawful}
use Rattle.vlog_size.specs.Operators.{is_wide}
use Rattle.vlog_size.specs.Names.{Readable, readable_of, fixed, checked, or_meaning, or_undeclared, net_meaning, memory_meaning}
use Rattle.vlog_size.specs.Size.{Sizes, sizes_of, sizes_of_prim, sizes_of_ref, sizes_of_index, sizes_of_last, sizes_of_sel}
use Rattle.vlog_size.specs.Size.{sizes_of_all, sizes_of_target, sizes_of_targets, faults}
use Rattle.vlog_size.specs.Size.{of_name, of_ref, of_place, of_concat, Bracket, Part, Indexed, part_const_faults, part_fault}
use Rattle.vlog_size.specs.Size.{part_width_faults, outside, too_large, number, or_zero, bounds_width, wrong_width, unsized_part}
use Rattle.vlog_size.specs.Size.{is_bad_binary, parts_const_faults, parts_width_faults, sum_fault, total_width}
use Rattle.vlog_size.specs.Size.{times, repeat_width, of_repeat, count_fault, is_too_large}
use Rattle.vlog_size.proofs.Sized.{IsSized, Sized}
use Rattle.vlog_size.proofs.Parts.{BracketSized, known_sized, part_lawful}
use Rattle.vlog_size.proofs.Faultless.{expr_sized, expr_constant}
use Rattle.vlog_size.proofs.Answered.{faultless_target}
use Rattle.vlog_block.specs.declared.source.Source.TheVariants.{Nothing}
use Rattle.vlog_block.specs.Sources.{names_of, net_source, memory_source, or_source, or_constant}
use Rattle.vlog_block.specs.Value.{width_of}
use Rattle.vlog_block.specs.Fit.{IsFitWith, IsFit, IsFitPrim, AreFit, IsFitRef, IsFitIndex, IsFitLast, IsFitSel, IsRepeated}
use Rattle.vlog_block.specs.Fit.{IsFitTarget, AreFitTargets}
use Rattle.vlog_block.specs.Targets.{target_width}

lawful_width : (w : ℕ) → is_lawful w ≡ true → IsWidth w
lawful_width w h = (grind arith, grind arith)

own_fit : (e : Sizes) → Sized e → e.const_faults ≡ [] → e.width_faults ≡ [] → IsWidth e.width
own_fit e s h k = let whole : IsSized e = s h k in lawful_width e.width whole.lawful

bounds_fit : (a b : Option ℕ) → is_lawful (bounds_width a b) ≡ true → IsWidth (or_zero a + 1 - or_zero b)
bounds_fit (Some a) (Some b) h = lawful_width (a + 1 - b) h
bounds_fit (Some a) None h = (cc)
bounds_fit None b h = (cc)

good_width : (line w : ℕ) (rest : List SizeError) → wrong_width line w ++ rest ≡ [] → is_lawful w ≡ true
good_width line w rest h =
    not-false (is_lawful w) (told_none (not (is_lawful w)) (error.Width line w) (nil_left (wrong_width line w) rest h))

-- what the brackets of a net or a memory without a fault are
abbrev AreFitAfter : ℕ → Option Sizes → Bracket → Type 0 → Type 0
AreFitAfter line index last Brackets = (width picked limit : ℕ) → is_lawful width ≡ true → is_lawful picked ≡ true
    → (of_place line width picked limit index last).const_faults ≡ [] → (of_place line width picked limit index last).width_faults ≡ []
    → Brackets

-- nothing is found in the first of two brackets
abbrev IsFaultless : Option Sizes → Type 0
IsFaultless None = Unit {0}
IsFaultless (Some e) = (e.const_faults ≡ []) × (e.width_faults ≡ [])

-- what the last bracket without a fault is
abbrev IsFitLastAfter : ℕ → Bracket → Type 0 → Type 0
IsFitLastAfter line last Fit = (width picked limit : ℕ) → is_lawful width ≡ true → is_lawful picked ≡ true → part_const_faults last ≡ []
    → part_fault line width last ≡ [] → part_width_faults width limit last ≡ [] → Fit

brackets_fit : (I L : Type 0) (line : ℕ) (index : Option Sizes) (last : Bracket) → (IsFaultless index → I) → IsFitLastAfter line last L
    → AreFitAfter line index last (I × L)
brackets_fit I L line None last i l width picked limit wide part h k = (
  i tt,
  l width picked limit wide part h (nil_left (part_fault line width last) (part_width_faults width limit last) k)
      (nil_right (part_fault line width last) (part_width_faults width limit last) k),
)
brackets_fit I L line (Some e) last i l width picked limit wide part h k =
    let inner = (outside limit e ++ e.width_faults) ++ part_width_faults width width last in
    let widths : inner ≡ [] = nil_right (part_fault line width last) inner k in
    let consts : e.const_faults ≡ [] = nil_left e.const_faults (part_const_faults last) h in
    let own : e.width_faults ≡ [] = nil_right (outside limit e) e.width_faults
    (nil_left (outside limit e ++ e.width_faults) (part_width_faults width width last) widths) in (
      i (consts, own),
      l width 1 width wide refl (nil_right e.const_faults (part_const_faults last) h)
          (nil_left (part_fault line width last) inner k)
          (nil_right (outside limit e ++ e.width_faults) (part_width_faults width width last) widths),
    )

-- a parameter, else a net, else a memory
abbrev any_meaning : Option Param → Option ScopeNet → Option ScopeMemory → Meaning
any_meaning p n m = or_meaning p (or_undeclared (or_first (option_map net_meaning n) (option_map memory_meaning m)))

-- a name that is checked, with its brackets
abbrev read_name : ℕ → Meaning → Option Sizes → Bracket → Sizes
read_name line m index last = of_name true line m (of_ref line m index last)

name_fit : (Brackets : Type 0) (line : ℕ) (index : Option Sizes) (last : Bracket) (memories : List (Named ScopeMemory))
    (p : Option Param) (n : Option ScopeNet) (m : Option ScopeMemory) (i j : Option ℕ) → AreFitAfter line index last Brackets
    → (read_name line (any_meaning p n m) index last).const_faults ≡ [] → (read_name line (any_meaning p n m) index last).width_faults ≡ []
    → IsFitWith (or_constant p (or_source net_source i n (or_source (memory_source memories) j m Nothing))) Brackets
name_fit Brackets line index last memories (Some p) n m i j fit h k = tt
name_fit Brackets line index last memories None (Some n) m i j fit h k =
    let e = of_place line n.width 1 n.width index last in
    let wide : is_lawful n.width ≡ true = good_width line n.width e.width_faults k in
    (lawful_width n.width wide, fit n.width 1 n.width wide refl h (nil_right (wrong_width line n.width) e.width_faults k))
name_fit Brackets line index last memories None None (Some m) i j fit h k =
    let e = of_place line m.width m.width m.length index last in
    let wide : is_lawful m.width ≡ true = good_width line m.width e.width_faults k in
    (lawful_width m.width wide, fit m.width m.width m.length wide wide h (nil_right (wrong_width line m.width) e.width_faults k))
name_fit Brackets line index last memories None None None i j fit h k = tt

sel_sized : (s : Readable) (sel : SelOf ℕ) → BracketSized (sizes_of_sel (checked s) sel)
sel_sized s (IndexSel e) = tt
sel_sized s (PartSel a b) = (
  known_sized (sizes_of (fixed (checked s)) a) (expr_sized (fixed s) a) (expr_constant (checked s) a),
  known_sized (sizes_of (fixed (checked s)) b) (expr_sized (fixed s) b) (expr_constant (checked s) b),
)
sel_sized s (IndexedSel base width) =
    known_sized (sizes_of (fixed (checked s)) width) (expr_sized (fixed s) width) (expr_constant (checked s) width)

factor_left : (n w : ℕ) → 1 ≤ n * w → 1 ≤ n
factor_left zero w h = let none : zero * w ≡ 0 = zero-mul w in omega (arith, h, none)
factor_left (suc n) w h = omega arith

factor_right : (n w : ℕ) → 1 ≤ n * w → 1 ≤ w
factor_right n zero h = let none : n * zero ≡ 0 = mul-zero n in omega (arith, h, none)
factor_right n (suc w) h = omega arith

fewer : (n w : ℕ) → 1 ≤ n * w → n * w ≤ 128 → w ≤ 128
fewer n w h k =
    let some : 1 ≤ n = factor_left n w h in
    let more : 1 * w ≤ n * w = mul-le-mul_right w some in
    let one : 1 * w ≡ w = one-mul w in
    omega (arith, more, one, k)

few_times : (n w : ℕ) → 1 ≤ n * w → n * w ≤ 128 → n ≤ 128
few_times n w h k =
    let some : 1 ≤ w = factor_right n w h in
    let more : n ≤ n * w = le-mul_of_pos_right n some in
    omega (arith, more, k)

repeated_fit : (n : Option ℕ) (w : ℕ) → IsWidth (repeat_width n w) → IsRepeated (or_zero n) w
repeated_fit None w h = let none : 1 ≤ 0 = h.0 in absurd (omega (arith, none))
repeated_fit (Some n) w h = record {
  some = factor_left n w h.0;
  few = few_times n w h.0 h.1;
  width = (factor_right n w h.0, fewer n w h.0 h.1);
  all = h.1;
}

count_is : (b : Bool) (n : Option ℕ) (w : ℕ) → IsWidth (repeat_width (if b then None else n) w)
    → or_zero (if b then None else n) ≡ or_zero n
count_is true n w h = let none : 1 ≤ 0 = h.0 in absurd (omega (arith, none))
count_is false n w h = refl

count_fit : (e : Sizes) (w : ℕ) → IsWidth (repeat_width (times e) w) → IsRepeated (or_zero (number e)) w
unfolding times
count_fit e w h = subst (λ (n : ℕ). IsRepeated n w) (count_is (is_too_large e) (number e) w h) (repeated_fit (times e) w h)

mutual
  expr_fit : (s : Readable) (e : ExprOf ℕ) → (sizes_of (checked s) e).const_faults ≡ [] → (sizes_of (checked s) e).width_faults ≡ []
      → IsFit (checked s) e
  expr_fit s (UnaryExpr None prim) h k = prim_fit s prim h k
  expr_fit s (UnaryExpr (Some sign) prim) h k =
      let a = sizes_of_prim (checked s) prim in
      let consts : a.const_faults ≡ [] = nil_right (told_if (is_wide sign.op && a.is_unsized) (error.Const sign.line)) a.const_faults h in
      (own_fit a (expr_sized s (UnaryExpr None prim)) consts k, prim_fit s prim consts k)
  expr_fit s (BinaryExpr a op b) h k =
      let left = sizes_of (checked s) a in
      let right = sizes_of (checked s) b in
      let consts : left.const_faults ++ right.const_faults ≡ [] =
      nil_right (told_if (is_bad_binary op left right) (error.Const left.line)) (left.const_faults ++ right.const_faults) h in
      let left_const : left.const_faults ≡ [] = nil_left left.const_faults right.const_faults consts in
      let right_const : right.const_faults ≡ [] = nil_right left.const_faults right.const_faults consts in
      let left_width : left.width_faults ≡ [] = nil_left left.width_faults right.width_faults k in
      let right_width : right.width_faults ≡ [] = nil_right left.width_faults right.width_faults k in (
        (own_fit left (expr_sized s a) left_const left_width, expr_fit s a left_const left_width),
        (own_fit right (expr_sized s b) right_const right_width, expr_fit s b right_const right_width),
      )
  expr_fit s (ChoiceExpr c a b) h k =
      let condition = sizes_of (checked s) c in
      let left = sizes_of (checked s) a in
      let right = sizes_of (checked s) b in
      let consts : left.const_faults ++ right.const_faults ≡ [] =
      nil_right condition.const_faults (left.const_faults ++ right.const_faults) h in
      let widths : left.width_faults ++ right.width_faults ≡ [] =
      nil_right condition.width_faults (left.width_faults ++ right.width_faults) k in
      let own_const : condition.const_faults ≡ [] = nil_left condition.const_faults (left.const_faults ++ right.const_faults) h in
      let own_width : condition.width_faults ≡ [] = nil_left condition.width_faults (left.width_faults ++ right.width_faults) k in (
        (own_fit condition (expr_sized s c) own_const own_width, expr_fit s c own_const own_width),
        (
          expr_fit s a (nil_left left.const_faults right.const_faults consts) (nil_left left.width_faults right.width_faults widths),
          expr_fit s b (nil_right left.const_faults right.const_faults consts) (nil_right left.width_faults right.width_faults widths),
        ),
      )

  prim_fit : (s : Readable) (p : PrimOf ℕ) → (sizes_of_prim (checked s) p).const_faults ≡ []
      → (sizes_of_prim (checked s) p).width_faults ≡ [] → IsFitPrim (checked s) p
  prim_fit s (NumberPrim n) h k = tt
  prim_fit s (RefPrim ref) h k = ref_fit s ref h k
  prim_fit s (ParenPrim line e) h k = expr_fit s e h k
  prim_fit s (RepeatPrim line count es) h k =
      let parts = sizes_of_all (checked s) es in
      let c = sizes_of (fixed (checked s)) count in
      let whole : IsWidth (repeat_width (times c) (total_width parts)) =
      own_fit (of_repeat line c parts) (expr_sized s (UnaryExpr None (RepeatPrim line count es))) h k in (
        count_fit c (total_width parts) whole,
        all_fit s es (nil_right (too_large c ++ c.const_faults) (parts_const_faults parts) h)
            (nil_right c.width_faults (parts_width_faults parts)
            (nil_right (count_fault line (times c) parts) (c.width_faults ++ parts_width_faults parts) k)),
      )
  prim_fit s (ConcatPrim line es) h k =
      let parts = sizes_of_all (checked s) es in
      let whole : IsWidth (total_width parts) = own_fit (of_concat line parts) (expr_sized s (UnaryExpr None (ConcatPrim line es))) h k in
      (whole.1, all_fit s es h (nil_right (sum_fault line parts) (parts_width_faults parts) k))

  pub ref_fit : (s : Readable) (ref : RefOf ℕ) → (sizes_of_ref (checked s) ref).const_faults ≡ []
      → (sizes_of_ref (checked s) ref).width_faults ≡ [] → IsFitRef (checked s) ref
  ref_fit s (RefWith id index last) h k =
      let inner : AreFitAfter id.line (sizes_of_index (checked s) index) (sizes_of_last (checked s) last)
      (IsFitIndex (checked s) index × IsFitLast (checked s) last) = brackets_fit (IsFitIndex (checked s) index) (IsFitLast (checked s) last)
      id.line (sizes_of_index (checked s) index) (sizes_of_last (checked s) last) (λ f. index_fit s index f)
      (λ width picked limit wide part c o d. last_fit s last id.line width picked limit wide part c o d) in
      name_fit (IsFitIndex (checked s) index × IsFitLast (checked s) last) id.line (sizes_of_index (checked s) index)
      (sizes_of_last (checked s) last) s.memories (value_of s.params id.name) (value_of s.nets id.name) (value_of s.memories id.name)
      (place_of s.nets id.name) (place_of s.memories id.name) inner h k

  all_fit : (s : Readable) (es : ExprsOf ℕ) → parts_const_faults (sizes_of_all (checked s) es) ≡ []
      → parts_width_faults (sizes_of_all (checked s) es) ≡ [] → AreFit (checked s) es
  all_fit s NoExprs h k = tt
  all_fit s (MoreExprs e es) h k =
      let p = sizes_of (checked s) e in
      let rest = sizes_of_all (checked s) es in
      let consts : p.const_faults ≡ [] =
      nil_right (unsized_part p) p.const_faults (nil_left (unsized_part p ++ p.const_faults) (parts_const_faults rest) h) in
      let widths : p.width_faults ≡ [] = nil_left p.width_faults (parts_width_faults rest) k in (
        (own_fit p (expr_sized s e) consts widths, expr_fit s e consts widths),
        all_fit s es (nil_right (unsized_part p ++ p.const_faults) (parts_const_faults rest) h)
            (nil_right p.width_faults (parts_width_faults rest) k),
      )

  index_fit : (s : Readable) (index : IndexOf ℕ) → IsFaultless (sizes_of_index (checked s) index) → IsFitIndex (checked s) index
  index_fit s NoIndex h = tt
  index_fit s (Index i) h = (own_fit (sizes_of (checked s) i) (expr_sized s i) h.0 h.1, expr_fit s i h.0 h.1)

  last_fit : (s : Readable) (last : LastOf ℕ) (line width picked limit : ℕ) → is_lawful width ≡ true → is_lawful picked ≡ true
      → part_const_faults (sizes_of_last (checked s) last) ≡ [] → part_fault line width (sizes_of_last (checked s) last) ≡ []
      → part_width_faults width limit (sizes_of_last (checked s) last) ≡ [] → IsFitLast (checked s) last
  last_fit s NoLast line width picked limit wide part h o k = tt
  last_fit s (Last sel) line width picked limit wide part h o k = sel_fit s sel line width picked limit wide part h o k

  sel_fit : (s : Readable) (sel : SelOf ℕ) (line width picked limit : ℕ) → is_lawful width ≡ true → is_lawful picked ≡ true
      → part_const_faults (sizes_of_sel (checked s) sel) ≡ [] → part_fault line width (sizes_of_sel (checked s) sel) ≡ []
      → part_width_faults width limit (sizes_of_sel (checked s) sel) ≡ [] → IsFitSel (checked s) sel
  sel_fit s (IndexSel i) line width picked limit wide part h o k =
      let e = sizes_of (checked s) i in
      let own : e.width_faults ≡ [] = nil_right (outside limit e) e.width_faults k in
      (own_fit e (expr_sized s i) h own, expr_fit s i h own)
  sel_fit s (PartSel a b) line width picked limit wide part h o k =
      let first = sizes_of (fixed (checked s)) a in
      let second = sizes_of (fixed (checked s)) b in
      bounds_fit (number first) (number second)
      (part_lawful line width picked limit (Part first second) (sel_sized s (PartSel a b)) wide part h o k)
  sel_fit s (IndexedSel base bits) line width picked limit wide part h o k =
      let e = sizes_of (checked s) base in
      let n = sizes_of (fixed (checked s)) bits in
      let consts : e.const_faults ≡ [] = nil_left e.const_faults (too_large n ++ n.const_faults) h in
      let own : e.width_faults ≡ [] = nil_left e.width_faults n.width_faults k in (
        lawful_width (or_zero (number n))
            (part_lawful line width picked limit (Indexed e n) (sel_sized s (IndexedSel base bits)) wide part h o k),
        (own_fit e (expr_sized s base) consts own, expr_fit s base consts own),
      )

pub faultless_fit : (s : Scope) (e : ExprOf ℕ) → faults (sizes_of (names_of s) e) ≡ [] → IsFit (names_of s) e
unfolding faults
faultless_fit s e h =
    let whole = sizes_of (names_of s) e in
    expr_fit (readable_of s) e (nil_left whole.const_faults whole.width_faults h) (nil_right whole.const_faults whole.width_faults h)

pub wide_enough : (s : Scope) (e : ExprOf ℕ) (w : ℕ) → faults (sizes_of (names_of s) e) ≡ [] → width_of (names_of s) e ≤ w → w ≤ 128
    → IsWidth w
unfolding faults
wide_enough s e w h low high =
    let whole = sizes_of (names_of s) e in
    let own : IsWidth (width_of (names_of s) e) = own_fit whole (expr_sized (readable_of s) e)
    (nil_left whole.const_faults whole.width_faults h) (nil_right whole.const_faults whole.width_faults h) in
    let least : 1 ≤ width_of (names_of s) e = own.0 in
    (omega (arith, least, low), high)

-- the width of an expression without a fault
pub faultless_width : (s : Scope) (e : ExprOf ℕ) → faults (sizes_of (names_of s) e) ≡ [] → IsWidth (width_of (names_of s) e)
unfolding faults
faultless_width s e h =
    let whole = sizes_of (names_of s) e in
    own_fit whole (expr_sized (readable_of s) e) (nil_left whole.const_faults whole.width_faults h)
    (nil_right whole.const_faults whole.width_faults h)

-- ---- targets

mutual
  target_fit : (s : Readable) (t : TargetOf ℕ) → (sizes_of_target (checked s) t).const_faults ≡ []
      → (sizes_of_target (checked s) t).width_faults ≡ [] → IsFitTarget (checked s) t
  target_fit s (RefTarget ref) h k =
      let whole = sizes_of_ref (checked s) ref in
      (own_fit whole (expr_sized s (UnaryExpr None (RefPrim ref))) h k, ref_fit s ref h k)
  target_fit s (ConcatTarget line ts) h k =
      let parts = sizes_of_targets (checked s) ts in
      targets_fit s ts h (nil_right (sum_fault line parts) (parts_width_faults parts) k)

  targets_fit : (s : Readable) (ts : TargetsOf ℕ) → parts_const_faults (sizes_of_targets (checked s) ts) ≡ []
      → parts_width_faults (sizes_of_targets (checked s) ts) ≡ [] → AreFitTargets (checked s) ts
  targets_fit s NoTargets h k = tt
  targets_fit s (MoreTargets t ts) h k =
      let p = sizes_of_target (checked s) t in
      let rest = sizes_of_targets (checked s) ts in
      let consts : p.const_faults ≡ [] =
      nil_right (unsized_part p) p.const_faults (nil_left (unsized_part p ++ p.const_faults) (parts_const_faults rest) h) in
      let widths : p.width_faults ≡ [] = nil_left p.width_faults (parts_width_faults rest) k in (
        target_fit s t consts widths,
        targets_fit s ts (nil_right (unsized_part p ++ p.const_faults) (parts_const_faults rest) h)
            (nil_right p.width_faults (parts_width_faults rest) k),
      )

pub faultless_target_fit : (s : Scope) (t : TargetOf ℕ) → faults (sizes_of_target (names_of s) t) ≡ [] → IsFitTarget (names_of s) t
unfolding faults
faultless_target_fit s t h =
    let whole = sizes_of_target (names_of s) t in
    target_fit (readable_of s) t (nil_left whole.const_faults whole.width_faults h) (nil_right whole.const_faults whole.width_faults h)

-- the width of a target without a fault
pub faultless_target_width : (s : Scope) (t : TargetOf ℕ) → faults (sizes_of_target (names_of s) t) ≡ []
    → IsWidth (target_width (names_of s) t)
faultless_target_width s t h = lawful_width (target_width (names_of s) t) (faultless_target (readable_of s) t h)
