-- In a lawful scope nothing is found of what a name stands for, so checked names say what the others do.
use Rattle.std.proofs.Common.{◌≡◌, ℕ, Bool, true, false, ◌||◌, not, Option, Some, None, List, [], ◌∷◌, ◌++◌, refl, ap, sym, ◌∙◌}
use Rattle.vlog_tree.specs.Tree.{ExprOf, UnaryExpr, BinaryExpr, ChoiceExpr, ExprsOf, NoExprs, MoreExprs}
use Rattle.vlog_tree.specs.Tree.{PrimOf, NumberPrim, RefPrim, ParenPrim, ConcatPrim, RepeatPrim, RefOf, RefWith, IndexOf, NoIndex}
use Rattle.vlog_tree.specs.Tree.{Index, LastOf, NoLast, Last, SelOf, IndexSel, PartSel, IndexedSel}
use Rattle.vlog_tree.specs.Tree.{TargetOf, RefTarget, ConcatTarget, TargetsOf, NoTargets, MoreTargets}
use Rattle.vlog_size.specs.declared.error.SizeError.{SizeError}
use Rattle.vlog_size.specs.declared.error.SizeError.TheVariants as error
use Rattle.vlog_size.specs.declared.names.Meaning.{Meaning}
use Rattle.vlog_size.specs.declared.names.Meaning.TheVariants.{Parameter, Place, Undeclared}
use Rattle.vlog_tree.specs.vidi_bits.Findings.{told_if}
use Rattle.vlog_size.specs.Names.{Readable, fixed, checked, meaning_of, is_lawful_readable}
use Rattle.vlog_size.specs.Size.{Sizes, sizes_of, sizes_of_prim, sizes_of_ref, sizes_of_index, sizes_of_last, sizes_of_sel, sizes_of_all}
use Rattle.vlog_size.specs.Size.{sizes_of_target, sizes_of_targets, of_sign, of_binary, of_choice, of_paren, of_concat, of_repeat, of_ref}
use Rattle.vlog_size.specs.Size.{of_name}
use Rattle.vlog_size.specs.Size.{Bracket, Bit, Part, Indexed, if_checked, name_const_faults, name_width_faults, const_width, is_past}
use Rattle.vlog_size.proofs.Meanings.{IsLawfulMeaning, meaning_lawful, fixed_lawful, const_lawful, not_past}

both : {A B C : Type 0} → (f : A → B → C) (a c : A) (b d : B) → a ≡ c → b ≡ d → f a b ≡ f c d
both f a c b d h k = ap (λ x. f x b) h ∙ ap (λ y. f c y) k

all_three : (f : Sizes → Sizes → Sizes → Sizes) (a b c x y z : Sizes) → a ≡ x → b ≡ y → c ≡ z → f a b c ≡ f x y z
all_three f a b c x y z h k l = ap (λ (s : Sizes). f s b c) h ∙ (ap (λ (s : Sizes). f x s c) k ∙ ap (λ (s : Sizes). f x y s) l)

-- ---- names
none_found : (known past : Bool) → known ≡ true → past ≡ false → (not known || past) ≡ false
none_found known past h k = rw (h, k) refl

no_const : (line : ℕ) (m : Meaning) → IsLawfulMeaning m → name_const_faults line m ≡ []
no_const line (Parameter c known) l =
    ap (λ (b : Bool). told_if b (error.Const line)) (none_found known (is_past c) l.0 (not_past c l.1))
no_const line (Place width picked limit) l = refl
no_const line Undeclared l = refl

no_width : (line : ℕ) (m : Meaning) → IsLawfulMeaning m → name_width_faults line m ≡ []
no_width line (Parameter c known) l =
    ap (λ (b : Bool). told_if (not b) (error.Width line (const_width c))) (const_lawful c l.1)
no_width line (Place width picked limit) l = ap (λ (b : Bool). told_if (not b) (error.Width line width)) l
no_width line Undeclared l = refl

none_counts : (b : Bool) (found : List SizeError) → found ≡ [] → if_checked b found ≡ []
none_counts true found h = h
none_counts false found h = refl

-- a lawful name is what it stands for
name_alike : (b : Bool) (line : ℕ) (m : Meaning) (e : Sizes) → IsLawfulMeaning m → of_name b line m e ≡ e
name_alike b line m e l =
    both (λ (consts widths : List SizeError). record e {
      const_faults = consts ++ e.const_faults;
      width_faults = widths ++ e.width_faults;
    }) (if_checked b (name_const_faults line m)) [] (if_checked b (name_width_faults line m)) []
    (none_counts b (name_const_faults line m) (no_const line m l)) (none_counts b (name_width_faults line m) (no_width line m l))

-- ---- trees
mutual
  pub expr_alike : (s : Readable) → is_lawful_readable s ≡ true → (e : ExprOf ℕ) → sizes_of (checked s) e ≡ sizes_of s e
  expr_alike s l (UnaryExpr None prim) = prim_alike s l prim
  expr_alike s l (UnaryExpr (Some sign) prim) = ap (of_sign sign.line sign.op) (prim_alike s l prim)
  expr_alike s l (BinaryExpr a op b) = both (of_binary op) (sizes_of (checked s) a) (sizes_of s a) (sizes_of (checked s) b) (sizes_of s b)
      (expr_alike s l a) (expr_alike s l b)
  expr_alike s l (ChoiceExpr c a b) = all_three of_choice (sizes_of (checked s) c) (sizes_of (checked s) a) (sizes_of (checked s) b)
      (sizes_of s c) (sizes_of s a) (sizes_of s b) (expr_alike s l c) (expr_alike s l a) (expr_alike s l b)

  prim_alike : (s : Readable) → is_lawful_readable s ≡ true → (p : PrimOf ℕ) → sizes_of_prim (checked s) p ≡ sizes_of_prim s p
  prim_alike s l (NumberPrim n) = refl
  prim_alike s l (RefPrim r) = ref_alike s l r
  prim_alike s l (ParenPrim line e) = ap (of_paren line) (expr_alike s l e)
  prim_alike s l (ConcatPrim line es) = ap (of_concat line) (all_alike s l es)
  prim_alike s l (RepeatPrim line count es) =
      both (of_repeat line) (sizes_of (fixed (checked s)) count) (sizes_of (fixed s) count)
      (sizes_of_all (checked s) es) (sizes_of_all s es)
      (expr_alike (fixed s) (fixed_lawful s l) count) (all_alike s l es)

  ref_alike : (s : Readable) → is_lawful_readable s ≡ true → (r : RefOf ℕ) → sizes_of_ref (checked s) r ≡ sizes_of_ref s r
  ref_alike s l (RefWith id index last) =
      let m = meaning_of s id.name in
      let read = of_ref id.line m (sizes_of_index s index) (sizes_of_last s last) in
      both (λ (i : Option Sizes) (b : Bracket). of_name true id.line m (of_ref id.line m i b))
      (sizes_of_index (checked s) index) (sizes_of_index s index) (sizes_of_last (checked s) last) (sizes_of_last s last)
      (index_alike s l index) (last_alike s l last)
      ∙ (name_alike true id.line m read (meaning_lawful s id.name l)
      ∙ sym (name_alike s.is_checked id.line m read (meaning_lawful s id.name l)))

  index_alike : (s : Readable) → is_lawful_readable s ≡ true → (index : IndexOf ℕ)
      → sizes_of_index (checked s) index ≡ sizes_of_index s index
  index_alike s l NoIndex = refl
  index_alike s l (Index e) = ap (λ (x : Sizes). Some x) (expr_alike s l e)

  last_alike : (s : Readable) → is_lawful_readable s ≡ true → (last : LastOf ℕ) → sizes_of_last (checked s) last ≡ sizes_of_last s last
  last_alike s l NoLast = refl
  last_alike s l (Last sel) = sel_alike s l sel

  sel_alike : (s : Readable) → is_lawful_readable s ≡ true → (sel : SelOf ℕ) → sizes_of_sel (checked s) sel ≡ sizes_of_sel s sel
  sel_alike s l (IndexSel e) = ap (λ (x : Sizes). Bit x) (expr_alike s l e)
  sel_alike s l (PartSel a b) = both (λ (x y : Sizes). Part x y)
      (sizes_of (fixed (checked s)) a) (sizes_of (fixed s) a) (sizes_of (fixed (checked s)) b) (sizes_of (fixed s) b)
      (expr_alike (fixed s) (fixed_lawful s l) a) (expr_alike (fixed s) (fixed_lawful s l) b)
  sel_alike s l (IndexedSel base width) = both (λ (x y : Sizes). Indexed x y)
      (sizes_of (checked s) base) (sizes_of s base) (sizes_of (fixed (checked s)) width) (sizes_of (fixed s) width)
      (expr_alike s l base) (expr_alike (fixed s) (fixed_lawful s l) width)

  all_alike : (s : Readable) → is_lawful_readable s ≡ true → (es : ExprsOf ℕ) → sizes_of_all (checked s) es ≡ sizes_of_all s es
  all_alike s l NoExprs = refl
  all_alike s l (MoreExprs e es) = both (λ (x : Sizes) (xs : List Sizes). x ∷ xs)
      (sizes_of (checked s) e) (sizes_of s e) (sizes_of_all (checked s) es) (sizes_of_all s es)
      (expr_alike s l e) (all_alike s l es)

mutual
  pub target_alike : (s : Readable) → is_lawful_readable s ≡ true → (t : TargetOf ℕ) → sizes_of_target (checked s) t ≡ sizes_of_target s t
  target_alike s l (RefTarget r) = ref_alike s l r
  target_alike s l (ConcatTarget line ts) = ap (of_concat line) (targets_alike s l ts)

  targets_alike : (s : Readable) → is_lawful_readable s ≡ true → (ts : TargetsOf ℕ)
      → sizes_of_targets (checked s) ts ≡ sizes_of_targets s ts
  targets_alike s l NoTargets = refl
  targets_alike s l (MoreTargets t ts) = both (λ (x : Sizes) (xs : List Sizes). x ∷ xs)
      (sizes_of_target (checked s) t) (sizes_of_target s t) (sizes_of_targets (checked s) ts) (sizes_of_targets s ts)
      (target_alike s l t) (targets_alike s l ts)
