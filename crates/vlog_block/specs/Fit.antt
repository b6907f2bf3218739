-- Expressions and targets whose parts have lawful widths, 1 to 128 bits.
use Rattle.std.specs.Prelude.{ℕ, ◌≤◌, ◌*◌, None, Some}
use Rattle.vlog_tree.specs.Tree.{ExprOf, UnaryExpr, BinaryExpr, ChoiceExpr, ExprsOf, NoExprs, MoreExprs}
use Rattle.vlog_tree.specs.Tree.{PrimOf, NumberPrim, RefPrim, ParenPrim, ConcatPrim, RepeatPrim, RefOf, RefWith, IndexOf}
use Rattle.vlog_tree.specs.Tree.{NoIndex, Index}
use Rattle.vlog_tree.specs.Tree.{LastOf, NoLast, Last, SelOf, IndexSel, PartSel, IndexedSel}
use Rattle.vlog_tree.specs.Tree.{TargetOf, RefTarget, ConcatTarget, TargetsOf, NoTargets, MoreTargets}
use Rattle.vlog_size.specs.Names.{Readable}
use Rattle.vlog_size.specs.Size.{sizes_of_all, total_width}
use Rattle.vlog_size.specs.vidi_bits.Number.{IsWidth}
use Rattle.vlog_block.specs.declared.source.Source.{Source}
use Rattle.vlog_block.specs.declared.source.Source.TheVariants.{Net, Memory}
use Rattle.vlog_block.specs.Sources.{source_of}
use Rattle.vlog_block.specs.Value.{width_of, prim_width, picked, bound}
use Rattle.vlog_block.specs.Targets.{target_width}

-- a net or a memory of lawful width, whose brackets are fit; the brackets of anything else are passed over
abbrev pub IsFitWith : Source → Type 0 → Type 0
IsFitWith (Net span) Brackets = IsWidth span.width × Brackets
IsFitWith (Memory room n) Brackets = IsWidth n × Brackets
IsFitWith _ Brackets = Unit {0}

-- n times w bits
pub record IsRepeated (n w : ℕ) : Type 0 where
  pub some : 1 ≤ n
  pub few : n ≤ 128
  pub width : IsWidth w
  pub all : n * w ≤ 128

abbrev mutual
  pub IsFit : Readable → ExprOf ℕ → Type 0
  IsFit r (UnaryExpr None prim) = IsFitPrim r prim
  IsFit r (UnaryExpr (Some sign) prim) = IsWidth (prim_width r prim) × IsFitPrim r prim
  IsFit r (BinaryExpr a op b) = (IsWidth (width_of r a) × IsFit r a) × (IsWidth (width_of r b) × IsFit r b)
  IsFit r (ChoiceExpr c a b) = (IsWidth (width_of r c) × IsFit r c) × (IsFit r a × IsFit r b)

  pub IsFitPrim : Readable → PrimOf ℕ → Type 0
  IsFitPrim r (NumberPrim n) = Unit {0}
  IsFitPrim r (RefPrim ref) = IsFitRef r ref
  IsFitPrim r (ParenPrim line e) = IsFit r e
  IsFitPrim r (ConcatPrim line es) = (total_width (sizes_of_all r es) ≤ 128) × AreFit r es
  IsFitPrim r (RepeatPrim line count es) = IsRepeated (bound r count) (total_width (sizes_of_all r es)) × AreFit r es

  pub AreFit : Readable → ExprsOf ℕ → Type 0
  AreFit r NoExprs = Unit {0}
  AreFit r (MoreExprs e es) = (IsWidth (width_of r e) × IsFit r e) × AreFit r es

  pub IsFitRef : Readable → RefOf ℕ → Type 0
  IsFitRef r (RefWith id index last) = IsFitWith (source_of r id.name) (IsFitIndex r index × IsFitLast r last)

  pub IsFitIndex : Readable → IndexOf ℕ → Type 0
  IsFitIndex r NoIndex = Unit {0}
  IsFitIndex r (Index i) = IsWidth (width_of r i) × IsFit r i

  pub IsFitLast : Readable → LastOf ℕ → Type 0
  IsFitLast r NoLast = Unit {0}
  IsFitLast r (Last sel) = IsFitSel r sel

  pub IsFitSel : Readable → SelOf ℕ → Type 0
  IsFitSel r (IndexSel i) = IsWidth (width_of r i) × IsFit r i
  IsFitSel r (PartSel first second) = IsWidth (picked r (Last (PartSel first second)) 0)
  IsFitSel r (IndexedSel base width) = IsWidth (picked r (Last (IndexedSel base width)) 0) × (IsWidth (width_of r base) × IsFit r base)

abbrev mutual
  pub IsFitTarget : Readable → TargetOf ℕ → Type 0
  IsFitTarget r (RefTarget ref) = IsWidth (target_width r (RefTarget ref)) × IsFitRef r ref
  IsFitTarget r (ConcatTarget line ts) = AreFitTargets r ts

  pub AreFitTargets : Readable → TargetsOf ℕ → Type 0
  AreFitTargets r NoTargets = Unit {0}
  AreFitTargets r (MoreTargets t ts) = IsFitTarget r t × AreFitTargets r ts
