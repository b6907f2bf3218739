-- Where names are checked, an expression without a fault has a lawful width, and a number where it stands in a constant position.
use Rattle.std.proofs.Common.{◌≡◌, ℕ, Bool, true, false, ◌&&◌, ◌||◌, not, Option, None, Some, List, [], ◌∷◌, ◌++◌, refl}
use Rattle.std.proofs.lemmas.Bool.{not-false, and_from}
use Rattle.vlog_tree.proofs.vidi_bits_lemmas.Bools.{never}
use Rattle.vlog_tree.proofs.vidi_bits_lemmas.FindingLaws.{told_none}
use Rattle.vlog_tree.proofs.vidi_bits_lemmas.Lists.{nil_left, nil_right}
use Rattle.vlog_tree.specs.Tree.{ExprOf, UnaryExpr, BinaryExpr, ChoiceExpr, ExprsOf, NoExprs, MoreExprs}
use Rattle.vlog_tree.specs.Tree.{PrimOf, NumberPrim, RefPrim, ParenPrim, ConcatPrim, RepeatPrim, RefOf, RefWith}
use Rattle.vlog_tree.specs.Tree.{LastOf, NoLast, Last, SelOf, IndexSel, PartSel, IndexedSel}
use Rattle.vlog_tree.specs.Tree.{TargetOf, RefTarget, ConcatTarget, TargetsOf, NoTargets, MoreTargets}
use Rattle.vlog_size.specs.declared.error.SizeError.{SizeError}
use Rattle.vlog_size.specs.declared.error.SizeError.TheVariants as error
use Rattle.vlog_size.specs.declared.scope.Param.{Param}
use Rattle.vlog_size.specs.declared.names.Meaning.{Meaning}
use Rattle.vlog_size.specs.declared.names.Meaning.TheVariants.{Parameter, Place, Undeclared}
use Rattle.vlog_size.specs.Table.{value_of}
use Rattle.vlog_tree.specs.vidi_bits.Findings.{told_if}
use Rattle.vlog_size.specs.Literal.{is_lawful}
use Rattle.vlog_size.specs.Operators.{is_wide}
use Rattle.vlog_size.specs.Names.{Readable, fixed, checked, or_meaning, meaning_of}
use Rattle.vlog_size.specs.Size.{Sizes, sizes_of, sizes_of_prim, sizes_of_ref, sizes_of_index, sizes_of_last, sizes_of_sel, sizes_of_all}
use Rattle.vlog_size.specs.Size.{sizes_of_target, sizes_of_targets, of_place, of_ref, Bracket, part_const_faults, part_fault}
use Rattle.vlog_size.specs.Size.{part_width_faults}
use Rattle.vlog_size.specs.Size.{outside, too_large, all_constant, parts_const_faults, unsized_part, is_bad_binary}
use Rattle.vlog_size.specs.Size.{of_param, of_name, if_checked, name_const_faults, no_faults, wrong_width, const_width, is_past}
use Rattle.vlog_size.proofs.Fits.{below_none}
use Rattle.vlog_size.proofs.Literals.{number_sized}
use Rattle.vlog_size.proofs.Meanings.{IsPicked, meaning_picked, param_sized}
use Rattle.vlog_size.proofs.Sized.{IsSized, Sized, sign_sized, binary_sized, choice_sized, paren_sized}
use Rattle.vlog_size.proofs.Parts.{AllSized, none_sized, more_sized, concat_sized, repeat_sized, known_sized, BracketSized, part_lawful}

place_sized : (line width picked limit : ℕ) (index : Option Sizes) (last : Bracket) → is_lawful width ≡ true → is_lawful picked ≡ true
    → BracketSized last → Sized (of_place line width picked limit index last)
place_sized line width picked limit None last w p s h k = record {
  fits = λ v wide top. below_none v;
  lawful = part_lawful line width picked limit last s w p h (nil_left (part_fault line width last) (part_width_faults width limit last) k)
      (nil_right (part_fault line width last) (part_width_faults width limit last) k);
  parts = refl;
  known = λ c. never ((v : ℕ) → true ≡ false) c;
  whole = λ c. never (true ≡ false) c;
}
place_sized line width picked limit (Some i) last w p s h k =
    let parts = (outside limit i ++ i.width_faults) ++ part_width_faults width width last in
    let inner : part_width_faults width width last ≡ [] = nil_right (outside limit i ++ i.width_faults)
    (part_width_faults width width last) (nil_right (part_fault line width last) parts k) in
    record {
      fits = λ v wide top. below_none v;
      lawful = part_lawful line width 1 width last s w refl (nil_right i.const_faults (part_const_faults last) h)
          (nil_left (part_fault line width last) parts k) inner;
      parts = refl;
      known = λ c. never ((v : ℕ) → true ≡ false) c;
      whole = λ c. never (true ≡ false) c;
    }

-- ---- a name of which nothing is found
known_of : (k p : Bool) → (not k || p) ≡ false → k ≡ true
known_of true p h = refl
known_of false p h = (cc)

not_past : (k p : Bool) → (not k || p) ≡ false → p ≡ false
not_past true p h = h
not_past false p h = (cc)

good_width : (line w : ℕ) (rest : List SizeError) → wrong_width line w ++ rest ≡ [] → is_lawful w ≡ true
good_width line w rest h =
    not-false (is_lawful w) (told_none (not (is_lawful w)) (error.Width line w) (nil_left (wrong_width line w) rest h))

name_sized : (b : Bool) (line : ℕ) (m : Meaning) (e : Sizes) → IsSized e → IsSized (of_name b line m e)
name_sized b line m e s = record {
  lawful = s.lawful;
  parts = s.parts;
  fits = s.fits;
  known = s.known;
  whole = s.whole;
}

ref_sized : (line : ℕ) (m : Meaning) (index : Option Sizes) (last : Bracket) → IsPicked m → BracketSized last
    → Sized (of_name true line m (of_ref line m index last))
ref_sized line (Parameter c known) index last p s h k =
    let bad = not known || is_past c in
    let good : bad ≡ false = told_none bad (error.Const line) (nil_left (told_if bad (error.Const line)) no_faults h) in
    name_sized true line (Parameter c known) (of_param line c known)
    (param_sized line c known (known_of known (is_past c) good) (not_past known (is_past c) good)
    (good_width line (const_width c) no_faults k))
ref_sized line (Place width picked limit) index last p s h k =
    let e = of_place line width picked limit index last in
    let wide : is_lawful width ≡ true = good_width line width e.width_faults k in
    name_sized true line (Place width picked limit) e
    (place_sized line width picked limit index last wide (p wide) s h (nil_right (wrong_width line width) e.width_faults k))
ref_sized line Undeclared index last p s h k = (cc)

-- ---- a constant position reads parameters alone
param_read : (b : Bool) (line : ℕ) (o : Option Param) (index : Option Sizes) (last : Bracket)
    → if_checked b (name_const_faults line (or_meaning o Undeclared)) ++ (of_ref line (or_meaning o Undeclared) index last).const_faults
    ≡ []
    → (of_ref line (or_meaning o Undeclared) index last).constant ≡ true
param_read b line None index last h =
    let unread : error.Const line ∷ [] ≡ [] = nil_right (if_checked b no_faults) (error.Const line ∷ []) h in (cc)
param_read b line (Some p) index last h = refl

mutual
  pub expr_constant : (s : Readable) (e : ExprOf ℕ) → (sizes_of (fixed s) e).const_faults ≡ [] → (sizes_of (fixed s) e).constant ≡ true
  expr_constant s (UnaryExpr None prim) h = prim_constant s prim h
  expr_constant s (UnaryExpr (Some sign) prim) h = prim_constant s prim
      (nil_right (told_if (is_wide sign.op && (sizes_of_prim (fixed s) prim).is_unsized) (error.Const sign.line))
      (sizes_of_prim (fixed s) prim).const_faults h)
  expr_constant s (BinaryExpr a op b) h =
      let left = sizes_of (fixed s) a in
      let right = sizes_of (fixed s) b in
      let parts : left.const_faults ++ right.const_faults ≡ [] =
      nil_right (told_if (is_bad_binary op left right) (error.Const left.line)) (left.const_faults ++ right.const_faults) h in
      and_from left.constant right.constant (expr_constant s a (nil_left left.const_faults right.const_faults parts))
      (expr_constant s b (nil_right left.const_faults right.const_faults parts))
  expr_constant s (ChoiceExpr c a b) h =
      let condition = sizes_of (fixed s) c in
      let left = sizes_of (fixed s) a in
      let right = sizes_of (fixed s) b in
      let parts : left.const_faults ++ right.const_faults ≡ [] =
      nil_right condition.const_faults (left.const_faults ++ right.const_faults) h in
      and_from condition.constant (left.constant && right.constant)
      (expr_constant s c (nil_left condition.const_faults (left.const_faults ++ right.const_faults) h))
      (and_from left.constant right.constant (expr_constant s a (nil_left left.const_faults right.const_faults parts))
      (expr_constant s b (nil_right left.const_faults right.const_faults parts)))

  prim_constant : (s : Readable) (p : PrimOf ℕ) → (sizes_of_prim (fixed s) p).const_faults ≡ []
      → (sizes_of_prim (fixed s) p).constant ≡ true
  prim_constant s (NumberPrim n) h = refl
  prim_constant s (RefPrim (RefWith id index last)) h =
      param_read s.is_checked id.line (value_of s.constants id.name) (sizes_of_index (fixed s) index) (sizes_of_last (fixed s) last) h
  prim_constant s (ParenPrim line e) h = expr_constant s e h
  prim_constant s (ConcatPrim line es) h = all_parts_constant s es h
  prim_constant s (RepeatPrim line count es) h =
      let c = sizes_of (fixed s) count in
      let parts = sizes_of_all (fixed s) es in
      let own : too_large c ++ c.const_faults ≡ [] = nil_left (too_large c ++ c.const_faults) (parts_const_faults parts) h in
      and_from c.constant (all_constant parts) (expr_constant s count (nil_right (too_large c) c.const_faults own))
      (all_parts_constant s es (nil_right (too_large c ++ c.const_faults) (parts_const_faults parts) h))

  all_parts_constant : (s : Readable) (es : ExprsOf ℕ) → parts_const_faults (sizes_of_all (fixed s) es) ≡ []
      → all_constant (sizes_of_all (fixed s) es) ≡ true
  all_parts_constant s NoExprs h = refl
  all_parts_constant s (MoreExprs e es) h =
      let p = sizes_of (fixed s) e in
      let rest = sizes_of_all (fixed s) es in
      and_from p.constant (all_constant rest)
      (expr_constant s e (nil_right (unsized_part p) p.const_faults
      (nil_left (unsized_part p ++ p.const_faults) (parts_const_faults rest) h)))
      (all_parts_constant s es (nil_right (unsized_part p ++ p.const_faults) (parts_const_faults rest) h))

-- ---- the whole
mutual
  pub expr_sized : (s : Readable) (e : ExprOf ℕ) → Sized (sizes_of (checked s) e)
  expr_sized s (UnaryExpr None prim) = prim_sized s prim
  expr_sized s (UnaryExpr (Some sign) prim) = sign_sized sign.line sign.op (sizes_of_prim (checked s) prim) (prim_sized s prim)
  expr_sized s (BinaryExpr a op b) =
      binary_sized op (sizes_of (checked s) a) (sizes_of (checked s) b) (expr_sized s a) (expr_sized s b)
  expr_sized s (ChoiceExpr c a b) = choice_sized (sizes_of (checked s) c) (sizes_of (checked s) a) (sizes_of (checked s) b)
      (expr_sized s c) (expr_sized s a) (expr_sized s b)

  prim_sized : (s : Readable) (p : PrimOf ℕ) → Sized (sizes_of_prim (checked s) p)
  prim_sized s (NumberPrim n) = number_sized n
  prim_sized s (RefPrim r) = whole_ref_sized s r
  prim_sized s (ParenPrim line e) = paren_sized line (sizes_of (checked s) e) (expr_sized s e)
  prim_sized s (ConcatPrim line es) = concat_sized line (sizes_of_all (checked s) es) (all_sized s es)
  prim_sized s (RepeatPrim line count es) =
      let c = sizes_of (fixed (checked s)) count in
      repeat_sized line c (sizes_of_all (checked s) es) (known_sized c (expr_sized (fixed s) count) (expr_constant (checked s) count))
      (all_sized s es)

  whole_ref_sized : (s : Readable) (r : RefOf ℕ) → Sized (sizes_of_ref (checked s) r)
  whole_ref_sized s (RefWith id index last) = ref_sized id.line (meaning_of (checked s) id.name) (sizes_of_index (checked s) index)
      (sizes_of_last (checked s) last) (meaning_picked (checked s) id.name) (last_sized s last)

  last_sized : (s : Readable) (last : LastOf ℕ) → BracketSized (sizes_of_last (checked s) last)
  last_sized s NoLast = tt
  last_sized s (Last sel) = sel_sized s sel

  sel_sized : (s : Readable) (sel : SelOf ℕ) → BracketSized (sizes_of_sel (checked s) sel)
  sel_sized s (IndexSel e) = tt
  sel_sized s (PartSel a b) = (
    known_sized (sizes_of (fixed (checked s)) a) (expr_sized (fixed s) a) (expr_constant (checked s) a),
    known_sized (sizes_of (fixed (checked s)) b) (expr_sized (fixed s) b) (expr_constant (checked s) b),
  )
  sel_sized s (IndexedSel base width) =
      known_sized (sizes_of (fixed (checked s)) width) (expr_sized (fixed s) width) (expr_constant (checked s) width)

  all_sized : (s : Readable) (es : ExprsOf ℕ) → AllSized (sizes_of_all (checked s) es)
  all_sized s NoExprs = none_sized
  all_sized s (MoreExprs e es) = more_sized (sizes_of (checked s) e) (sizes_of_all (checked s) es) (expr_sized s e) (all_sized s es)

mutual
  pub target_sized : (s : Readable) (t : TargetOf ℕ) → Sized (sizes_of_target (checked s) t)
  target_sized s (RefTarget r) = whole_ref_sized s r
  target_sized s (ConcatTarget line ts) = concat_sized line (sizes_of_targets (checked s) ts) (targets_sized s ts)

  targets_sized : (s : Readable) (ts : TargetsOf ℕ) → AllSized (sizes_of_targets (checked s) ts)
  targets_sized s NoTargets = none_sized
  targets_sized s (MoreTargets t ts) =
      more_sized (sizes_of_target (checked s) t) (sizes_of_targets (checked s) ts) (target_sized s t) (targets_sized s ts)
