-- The same own numbers give expressions the same numbers.
use Rattle.std.proofs.Common.{◌≡◌, ℕ, ◌+◌, ◌<◌, ◌≤◌, ◌==◌, max, nat_lt, Bool, true, false, if◌then◌else◌, length}
use Rattle.std.proofs.Common.{slice_index, Option, Some, None, refl, ap, ◌∙◌, arith}
use Rattle.std.proofs.lemmas.Bool.{ltb-true}
use Rattle.vlog_tree.specs.Tree.{ExprOf, UnaryExpr, BinaryExpr, ChoiceExpr, ExprsOf, NoExprs, MoreExprs}
use Rattle.vlog_tree.specs.Tree.{PrimOf, NumberPrim, RefPrim, ParenPrim, ConcatPrim, RepeatPrim, RefOf, RefWith, IndexOf, NoIndex, Index}
use Rattle.vlog_tree.specs.Tree.{LastOf, NoLast, Last, SelOf, IndexSel, PartSel, IndexedSel}
use Rattle.vlog_tree.specs.declared.expr.BinaryOp.{BinaryOp}
use Rattle.vlog_names.specs.vlog_size.declared.operators.Kind.{Kind}
use Rattle.vlog_names.specs.vlog_size.declared.operators.Kind.TheVariants.{Sum, Comparison, Logic, Shift}
use Rattle.vlog_names.specs.vlog_size.Names.{Readable}
use Rattle.vlog_names.specs.vlog_size.Operators.{kind_of, unary_value, binary_value}
use Rattle.vlog_names.specs.vlog_size.Size.{sizes_of_all, total_width}
use Rattle.vlog_names.specs.vidi_bits.Number.{part_of, side_by_side, repeated}
use Rattle.net_design.specs.declared.rhs.Room.{Room}
use Rattle.net_design.specs.declared.values.Values.{Values}
use Rattle.net_design.specs.Value.{word_at}
use Rattle.vlog_block.specs.declared.source.Source.{Source}
use Rattle.vlog_block.specs.declared.source.Source.TheVariants.{Constant, Net, Memory, Nothing}
use Rattle.vlog_block.specs.Sources.{source_of}
use Rattle.vlog_block.specs.Value.{width_of, operand_width, bound, picked, binary_at, index_number, part_or_whole, lone_word}
use Rattle.vlog_block.specs.Value.{source_number, value, prim_value, parts_value, joined_onto, ref_value, first_index, lowest, low_of}
use Rattle.vlog_driver.specs.Own.{Agree, word_total}
use Rattle.vlog_driver.proofs.InPlace.{SourceIn, source_in}

two_same : (op : BinaryOp) (w x y a b : ℕ) → x ≡ a → y ≡ b → binary_value op x y w ≡ binary_value op a b w
two_same op w x y a b h g = ap (λ z. binary_value op z y w) h ∙ ap (λ z. binary_value op a z w) g

binary_same : (k : Kind) (op : BinaryOp) (m n : ℕ) (f g a b : ℕ → ℕ) → ((x : ℕ) → f x ≡ a x) → ((x : ℕ) → g x ≡ b x)
    → (w : ℕ) → binary_at k op m n f g w ≡ binary_at k op m n a b w
binary_same Sum op m n f g a b left right w = two_same op w (f w) (g w) (a w) (b w) (left w) (right w)
binary_same Comparison op m n f g a b left right w =
    two_same op (max m n) (f (max m n)) (g (max m n)) (a (max m n)) (b (max m n)) (left (max m n)) (right (max m n))
binary_same Logic op m n f g a b left right w = two_same op w (f m) (g n) (a m) (b n) (left m) (right n)
binary_same Shift op m n f g a b left right w = two_same op w (f w) (g n) (a w) (b n) (left w) (right n)

choice_same : (c x y c' x' y' : ℕ) → c ≡ c' → x ≡ x' → y ≡ y' → (if c == 0 then y else x) ≡ (if c' == 0 then y' else x')
choice_same c x y c' x' y' h f g =
    ap (λ z. if z == 0 then y else x) h ∙ ap (λ z. if c' == 0 then z else x) g ∙ ap (λ z. if c' == 0 then y' else z) f

module _ (r : Readable) (v w : Values) (same : Agree r v w) where
  word_by : (room : Room) (i : ℕ) (b : Bool) → nat_lt i room.length ≡ b → room.first + room.length ≤ word_total r
      → (if b then slice_index v.words (room.first + i) else 0) ≡ (if b then slice_index w.words (room.first + i) else 0)
  word_by room i true e l =
      let inside : i < room.length = ltb-true i room.length e in same.words (room.first + i) (omega (arith, inside, l))
  word_by room i false e l = refl

  word_same : (room : Room) (i : ℕ) → room.first + room.length ≤ word_total r → word_at room i v ≡ word_at room i w
  word_same room i l = word_by room i (nat_lt i room.length) refl l

  lone_same : (room : Room) (last : LastOf ℕ) (at : Option ℕ) → room.first + room.length ≤ word_total r
      → lone_word v room last at ≡ lone_word w room last at
  lone_same room NoLast at l = refl
  lone_same room (Last (IndexSel i)) None l = refl
  lone_same room (Last (IndexSel i)) (Some k) l = word_same room k l
  lone_same room (Last (PartSel a b)) at l = refl
  lone_same room (Last (IndexedSel a b)) at l = refl

  source_same : (s : Source) (index : Option ℕ) (last : LastOf ℕ) (low : Option ℕ) → SourceIn (length r.nets) (word_total r) s
      → source_number r v s index last low ≡ source_number r w s index last low
  source_same (Constant c) index last low l = refl
  source_same (Net span) index last low l =
      ap (λ x. part_or_whole (part_of x span.low span.width) low (picked r last span.width)) (same.nets span.net l)
  source_same (Memory room n) (Some i) last low l = ap (λ x. part_or_whole x low (picked r last n)) (word_same room i l)
  source_same (Memory room n) None last low l = lone_same room last low l
  source_same Nothing index last low l = refl

  mutual
    pub value_same : (e : ExprOf ℕ) (n : ℕ) → value r v e n ≡ value r w e n
    value_same (UnaryExpr None prim) n = prim_same prim n
    value_same (UnaryExpr (Some sign) prim) n =
        ap (λ x. unary_value sign.op x (operand_width r sign.op prim n)) (prim_same prim (operand_width r sign.op prim n))
    value_same (BinaryExpr a op b) n =
        binary_same (kind_of op) op (width_of r a) (width_of r b) (λ x. value r v a x) (λ x. value r v b x) (λ x. value r w a x)
        (λ x. value r w b x) (λ x. value_same a x) (λ x. value_same b x) n
    value_same (ChoiceExpr c a b) n =
        choice_same (value r v c (width_of r c)) (value r v a n) (value r v b n) (value r w c (width_of r c)) (value r w a n)
        (value r w b n) (value_same c (width_of r c)) (value_same a n) (value_same b n)

    prim_same : (p : PrimOf ℕ) (n : ℕ) → prim_value r v p n ≡ prim_value r w p n
    prim_same (NumberPrim x) n = refl
    prim_same (RefPrim ref) n = ref_same ref
    prim_same (ParenPrim line e) n = value_same e n
    prim_same (ConcatPrim line es) n = parts_same es
    prim_same (RepeatPrim line count es) n = ap (λ x. repeated (bound r count) x (total_width (sizes_of_all r es))) (parts_same es)

    parts_same : (es : ExprsOf ℕ) → parts_value r v es ≡ parts_value r w es
    parts_same NoExprs = refl
    parts_same (MoreExprs e es) =
        onto_same (width_of r e) (value r v e (width_of r e)) (value r w e (width_of r e)) es (value_same e (width_of r e))

    onto_same : (n x y : ℕ) (es : ExprsOf ℕ) → x ≡ y → joined_onto r v n x es ≡ joined_onto r w n y es
    onto_same n x y NoExprs h = h
    onto_same n x y (MoreExprs e es) h =
        onto_same (n + width_of r e) (side_by_side x (value r v e (width_of r e)) n (width_of r e))
        (side_by_side y (value r w e (width_of r e)) n (width_of r e)) es
        (ap (λ z. side_by_side z (value r v e (width_of r e)) n (width_of r e)) h
        ∙ ap (λ z. side_by_side y z n (width_of r e)) (value_same e (width_of r e)))

    ref_same : (ref : RefOf ℕ) → ref_value r v ref ≡ ref_value r w ref
    ref_same (RefWith id index last) =
        ap (λ i. source_number r v (source_of r id.name) i last (lowest r v last)) (index_same index)
        ∙ ap (λ i. source_number r v (source_of r id.name) (first_index r w index) last i) (lowest_same last)
        ∙ source_same (source_of r id.name) (first_index r w index) last (lowest r w last) (source_in r id.name)

    pub index_same : (index : IndexOf ℕ) → first_index r v index ≡ first_index r w index
    index_same NoIndex = refl
    index_same (Index i) = ap (λ x. Some (index_number r i x)) (value_same i (width_of r i))

    pub lowest_same : (last : LastOf ℕ) → lowest r v last ≡ lowest r w last
    lowest_same NoLast = refl
    lowest_same (Last sel) = ap Some (low_same sel)

    low_same : (sel : SelOf ℕ) → low_of r v sel ≡ low_of r w sel
    low_same (IndexSel i) = ap (index_number r i) (value_same i (width_of r i))
    low_same (PartSel first second) = refl
    low_same (IndexedSel base width) = ap (index_number r base) (value_same base (width_of r base))
