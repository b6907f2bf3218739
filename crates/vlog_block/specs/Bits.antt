-- The bits of nets that an expression reads (this project's profile): a select of a net at a constant place reads its bits that are in
-- range, any other the whole net, and what its place reads. Words of memories are no bits of nets, and a constant index reads nothing.
use Rattle.std.specs.Prelude.{ℕ, ◌+◌, Bool, ◌&&◌, ◌||◌, not, false, nat_le, nat_lt, Option, None, Some}
use Rattle.vlog_tree.specs.Tree.{ExprOf, UnaryExpr, BinaryExpr, ChoiceExpr, ExprsOf, NoExprs, MoreExprs}
use Rattle.vlog_tree.specs.Tree.{PrimOf, NumberPrim, RefPrim, ParenPrim, ConcatPrim, RepeatPrim, RefOf, RefWith, IndexOf}
use Rattle.vlog_tree.specs.Tree.{NoIndex, Index}
use Rattle.vlog_tree.specs.Tree.{LastOf, NoLast, Last, IndexSel, PartSel, IndexedSel}
use Rattle.vlog_size.specs.Names.{Readable}
use Rattle.vlog_size.specs.Size.{sizes_of}
use Rattle.net_design.specs.declared.rhs.Span.{Span}
use Rattle.net_design.specs.Bits.{BitSet, bits_of}
use Rattle.vlog_block.specs.declared.source.Source.{Source}
use Rattle.vlog_block.specs.declared.source.Source.TheVariants.{Net, Memory}
use Rattle.vlog_block.specs.Sources.{source_of}
use Rattle.vlog_block.specs.Value.{picked}
use Rattle.vlog_block.specs.Places.{constant_low}

-- w bits of a net from a constant place on, as far as it has them
abbrev pub bits_from : Span → ℕ → ℕ → BitSet
bits_from span low w m k = bits_of span m k && (nat_le low k && nat_lt k (low + w))

-- w bits of a net from a place on, where `at_place` says whether what gives the place reads this bit
abbrev pub part_reads : Span → Option ℕ → ℕ → Bool → BitSet
part_reads span (Some low) w at_place m k = bits_from span low w m k
part_reads span None w at_place m k = bits_of span m k || at_place

-- a net, or a select of it
abbrev pub net_reads : Readable → Span → LastOf ℕ → Bool → BitSet
net_reads r span NoLast at_place m k = bits_of span m k
net_reads r span (Last sel) at_place m k = part_reads span (constant_low r sel) (picked r (Last sel) span.width) at_place m k

-- a memory's word after an index, or a select of it
abbrev pub word_reads : LastOf ℕ → Bool → Bool → Bool
word_reads NoLast at_word at_place = at_word
word_reads (Last sel) at_word at_place = at_word || at_place

-- a memory's word whose index stands in a lone bracket
abbrev pub lone_reads : LastOf ℕ → Bool → Bool
lone_reads (Last (IndexSel i)) at_word = at_word
lone_reads _ at_word = false

-- a name with its brackets, where it is known whether these read the bit
abbrev pub source_reads : Readable → Source → IndexOf ℕ → LastOf ℕ → Bool → Bool → BitSet
source_reads r (Net span) index last at_word at_place m k = net_reads r span last at_place m k
source_reads r (Memory room n) (Index i) last at_word at_place m k = word_reads last at_word at_place
source_reads r (Memory room n) NoIndex last at_word at_place m k = lone_reads last at_place
source_reads r _ index last at_word at_place m k = false

abbrev mutual
  pub reads : Readable → ExprOf ℕ → BitSet
  reads r (UnaryExpr sign prim) m k = prim_reads r prim m k
  reads r (BinaryExpr a op b) m k = reads r a m k || reads r b m k
  reads r (ChoiceExpr c a b) m k = reads r c m k || (reads r a m k || reads r b m k)

  pub prim_reads : Readable → PrimOf ℕ → BitSet
  prim_reads r (NumberPrim n) m k = false
  prim_reads r (RefPrim ref) m k = ref_reads r ref m k
  prim_reads r (ParenPrim line e) m k = reads r e m k
  prim_reads r (ConcatPrim line es) m k = parts_read r es m k
  prim_reads r (RepeatPrim line count es) m k = parts_read r es m k

  pub parts_read : Readable → ExprsOf ℕ → BitSet
  parts_read r NoExprs m k = false
  parts_read r (MoreExprs e es) m k = rest_reads r (reads r e m k) es m k

  -- the parts before read the bit, or one of the others does
  pub rest_reads : Readable → Bool → ExprsOf ℕ → BitSet
  rest_reads r before NoExprs m k = before
  rest_reads r before (MoreExprs e es) m k = rest_reads r (before || reads r e m k) es m k

  pub ref_reads : Readable → RefOf ℕ → BitSet
  ref_reads r (RefWith id index last) m k =
      source_reads r (source_of r id.name) index last (index_reads r index m k) (last_reads r last m k) m k

  pub index_reads : Readable → IndexOf ℕ → BitSet
  index_reads r NoIndex m k = false
  index_reads r (Index i) m k = not (sizes_of r i).constant && reads r i m k

  -- bounds, the width after `+:`, and a count, read no net
  pub last_reads : Readable → LastOf ℕ → BitSet
  last_reads r NoLast m k = false
  last_reads r (Last (IndexSel i)) m k = not (sizes_of r i).constant && reads r i m k
  last_reads r (Last (PartSel first second)) m k = false
  last_reads r (Last (IndexedSel base width)) m k = not (sizes_of r base).constant && reads r base m k
