-- *Value*: the number of an expression of the trees at a width (IEEE 1364-2005, 5.1, 5.2, 5.4 and table 5-22; this project's profile:
-- everything is unsigned, there is neither x nor z, and a select out of range reads 0). v has the numbers of the scope's nets and of
-- the words of its memories, by their places.
use Rattle.std.specs.Prelude.{ℕ, ◌+◌, ◌-◌, max, ◌==◌, if◌then◌else◌, Option, None, Some}
use Rattle.vlog_tree.specs.Tree.{ExprOf, UnaryExpr, BinaryExpr, ChoiceExpr, ExprsOf, NoExprs, MoreExprs}
use Rattle.vlog_tree.specs.Tree.{PrimOf, NumberPrim, RefPrim, ParenPrim, ConcatPrim, RepeatPrim, RefOf, RefWith, IndexOf}
use Rattle.vlog_tree.specs.Tree.{NoIndex, Index}
use Rattle.vlog_tree.specs.Tree.{LastOf, NoLast, Last, SelOf, IndexSel, PartSel, IndexedSel}
use Rattle.vlog_tree.specs.declared.expr.UnaryOp.{UnaryOp}
use Rattle.vlog_tree.specs.declared.expr.BinaryOp.{BinaryOp}
use Rattle.vlog_size.specs.declared.operators.Kind.{Kind}
use Rattle.vlog_size.specs.declared.operators.Kind.TheVariants.{Sum, Comparison, Logic, Shift}
use Rattle.vlog_size.specs.Names.{Readable, fixed}
use Rattle.vlog_size.specs.Literal.{literal_number}
use Rattle.vlog_size.specs.Operators.{kind_of, is_wide, unary_value, binary_value}
use Rattle.vlog_size.specs.Size.{sizes_of, sizes_of_all, sizes_of_prim, total_width, number, or_zero, const_number}
use Rattle.vlog_size.specs.vidi_bits.Number.{part_of, side_by_side, repeated}
use Rattle.net_design.specs.declared.rhs.Room.{Room}
use Rattle.net_design.specs.declared.values.Values.{Values}
use Rattle.net_design.specs.Value.{read, word_at}
use Rattle.vlog_block.specs.declared.source.Source.{Source}
use Rattle.vlog_block.specs.declared.source.Source.TheVariants.{Constant, Net, Memory, Nothing}
use Rattle.vlog_block.specs.Sources.{source_of}

-- ---- widths (5.4.1)

abbrev pub width_of : Readable → ExprOf ℕ → ℕ
width_of r e = (sizes_of r e).width

abbrev pub prim_width : Readable → PrimOf ℕ → ℕ
prim_width r p = (sizes_of_prim r p).width

-- the width at which the operand of `+ - ~` is taken is that of the whole, of the others its own
abbrev pub operand_width : Readable → UnaryOp → PrimOf ℕ → ℕ → ℕ
operand_width r op prim w = if is_wide op then w else prim_width r prim

-- the number of a bound, of the width after `+:`, or of a replication's count, each a constant position
abbrev pub bound : Readable → ExprOf ℕ → ℕ
bound r e = or_zero (number (sizes_of (fixed r) e))

-- how many bits a select picks of a vector of n bits
abbrev pub picked : Readable → LastOf ℕ → ℕ → ℕ
picked r NoLast n = n
picked r (Last (IndexSel i)) n = 1
picked r (Last (PartSel first second)) n = bound r first + 1 - bound r second
picked r (Last (IndexedSel base width)) n = bound r width

-- ---- numbers

-- two operands at width w. The operands of a comparison have the larger of their own widths, those of `&&` and `||` and the right one
-- of a shift have their own; the other operands have that of the whole.
abbrev pub binary_at : Kind → BinaryOp → ℕ → ℕ → (ℕ → ℕ) → (ℕ → ℕ) → ℕ → ℕ
binary_at Sum op m n a b w = binary_value op (a w) (b w) w
binary_at Comparison op m n a b w = binary_value op (a (max m n)) (b (max m n)) (max m n)
binary_at Logic op m n a b w = binary_value op (a m) (b n) w
binary_at Shift op m n a b w = binary_value op (a w) (b n) w

-- an index is self-determined, of the number x; one that reads no net is a constant
abbrev pub index_number : Readable → ExprOf ℕ → ℕ → ℕ
index_number r i x = if (sizes_of r i).constant then or_zero (number (sizes_of r i)) else x

-- w bits of x from a place on, where there is one; what lies past its end reads as 0
abbrev pub part_or_whole : ℕ → Option ℕ → ℕ → ℕ
part_or_whole x None w = x
part_or_whole x (Some low) w = part_of x low w

-- a memory's word, whose index stands in a lone bracket
abbrev pub lone_word : Values → Room → LastOf ℕ → Option ℕ → ℕ
lone_word v room (Last (IndexSel i)) (Some k) = word_at room k v
lone_word v room _ _ = 0

-- a constant; a select of a net; of a memory's word, whose index stands in the first of two brackets, or in a lone one (5.2)
abbrev pub source_number : Readable → Values → Source → Option ℕ → LastOf ℕ → Option ℕ → ℕ
source_number r v (Constant c) index last low = const_number c
source_number r v (Net span) index last low = part_or_whole (read span v) low (picked r last span.width)
source_number r v (Memory room n) (Some i) last low = part_or_whole (word_at room i v) low (picked r last n)
source_number r v (Memory room n) None last low = lone_word v room last low
source_number r v Nothing index last low = 0

abbrev mutual
  -- the number of an expression at width w
  pub value : Readable → Values → ExprOf ℕ → ℕ → ℕ
  value r v (UnaryExpr None prim) w = prim_value r v prim w
  value r v (UnaryExpr (Some sign) prim) w =
      unary_value sign.op (prim_value r v prim (operand_width r sign.op prim w)) (operand_width r sign.op prim w)
  value r v (BinaryExpr a op b) w =
      binary_at (kind_of op) op (width_of r a) (width_of r b) (λ (n : ℕ). value r v a n) (λ (n : ℕ). value r v b n) w
  value r v (ChoiceExpr c a b) w = if value r v c (width_of r c) == 0 then value r v b w else value r v a w

  pub prim_value : Readable → Values → PrimOf ℕ → ℕ → ℕ
  prim_value r v (NumberPrim n) w = or_zero (literal_number n.kind n.text)
  prim_value r v (RefPrim ref) w = ref_value r v ref
  prim_value r v (ParenPrim line e) w = value r v e w
  prim_value r v (ConcatPrim line es) w = parts_value r v es
  prim_value r v (RepeatPrim line count es) w = repeated (bound r count) (parts_value r v es) (total_width (sizes_of_all r es))

  -- the parts of a concatenation at their own widths, side by side; the first one is the highest (5.1.14)
  pub parts_value : Readable → Values → ExprsOf ℕ → ℕ
  parts_value r v NoExprs = 0
  parts_value r v (MoreExprs e es) = joined_onto r v (width_of r e) (value r v e (width_of r e)) es

  -- w bits that have the number x, and the parts below them
  pub joined_onto : Readable → Values → ℕ → ℕ → ExprsOf ℕ → ℕ
  joined_onto r v w x NoExprs = x
  joined_onto r v w x (MoreExprs e es) =
      joined_onto r v (w + width_of r e) (side_by_side x (value r v e (width_of r e)) w (width_of r e)) es

  -- a name with its brackets
  pub ref_value : Readable → Values → RefOf ℕ → ℕ
  ref_value r v (RefWith id index last) =
      source_number r v (source_of r id.name) (first_index r v index) last (lowest r v last)

  -- the first of two brackets
  pub first_index : Readable → Values → IndexOf ℕ → Option ℕ
  first_index r v NoIndex = None
  first_index r v (Index i) = Some (index_number r i (value r v i (width_of r i)))

  -- the place of the lowest bit that the last bracket picks
  pub lowest : Readable → Values → LastOf ℕ → Option ℕ
  lowest r v NoLast = None
  lowest r v (Last sel) = Some (low_of r v sel)

  pub low_of : Readable → Values → SelOf ℕ → ℕ
  low_of r v (IndexSel i) = index_number r i (value r v i (width_of r i))
  low_of r v (PartSel first second) = bound r second
  low_of r v (IndexedSel base width) = index_number r base (value r v base (width_of r base))

-- the number of an index
abbrev pub index_value : Readable → Values → ExprOf ℕ → ℕ
index_value r v i = index_number r i (value r v i (width_of r i))
