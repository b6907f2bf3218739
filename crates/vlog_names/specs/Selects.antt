-- What an expression reads, and which expressions a child's output may drive (IEEE 1364-2005, 5.2 and 6.1; this project's
-- profile).
use Rattle.std.specs.Prelude.{ℕ, Bool, true, false, ◌&&◌, List, None, Some}
use Rattle.vlog_names.specs.vidi_bits.Findings.{is_nil, told_if}
use Rattle.vlog_tree.specs.Tree.{ExprOf, UnaryExpr, BinaryExpr, ChoiceExpr, PrimOf, NumberPrim, RefPrim, ParenPrim, ConcatPrim}
use Rattle.vlog_tree.specs.Tree.{RefOf, RefWith, IndexOf, NoIndex, Index, LastOf, NoLast, Last, SelOf, IndexSel, PartSel, IndexedSel}
use Rattle.vlog_tree.specs.Tree.{RepeatPrim, ExprsOf, NoExprs, MoreExprs}
use Rattle.vlog_names.specs.Table.{value_of}
use Rattle.vlog_names.specs.Kinds.{at_names, wrong_kind, is_wrong_use}
use Rattle.vlog_names.specs.declared.declaration.Shape.{Shape}
use Rattle.vlog_names.specs.declared.declaration.Shape.TheVariants.{Scalar, Vector}
use Rattle.vlog_names.specs.Entries.{Names, class_in}
use Rattle.vlog_names.specs.Roles.{is_wire, is_place}
use Rattle.vlog_names.specs.declared.kinds.sought.Sought.{Sought}
use Rattle.vlog_names.specs.declared.kinds.sought.Sought.TheVariants.{WrongKind, Place}

abbrev pub is_scalar : Shape → Bool
is_scalar Scalar = true
is_scalar Vector = false

abbrev pub is_index : SelOf ℕ → Bool
is_index (IndexSel e) = true
is_index (PartSel a b) = false
is_index (IndexedSel base width) = false

-- the line of a name that is a net or a memory
unfoldable pub place_at : Names → RefOf ℕ → List ℕ
place_at names (RefWith id index last) = told_if (is_place (value_of names id.name)) id.line

-- what is looked for at the names of an expression
unfoldable pub sought_at : Sought → Names → RefOf ℕ → List ℕ
sought_at WrongKind names = wrong_kind (class_in names)
sought_at Place names = place_at names

-- a name with these brackets is of a wrong kind
abbrev pub is_wrong_ref : Names → RefOf ℕ → Bool
is_wrong_ref names (RefWith id index last) = is_wrong_use (class_in names id.name) index last

-- a constant expression reads no nets and no memories
abbrev pub is_constant : Names → ExprOf ℕ → Bool
is_constant names e = is_nil (at_names (place_at names) e)

abbrev pub is_constant_index : Names → IndexOf ℕ → Bool
is_constant_index names NoIndex = true
is_constant_index names (Index e) = is_constant names e

-- bounds and a `+:` width are constant positions, of which E5 speaks
abbrev pub is_constant_sel : Names → SelOf ℕ → Bool
is_constant_sel names (IndexSel e) = is_constant names e
is_constant_sel names (PartSel a b) = true
is_constant_sel names (IndexedSel base width) = is_constant names base

abbrev pub is_constant_last : Names → LastOf ℕ → Bool
is_constant_last names NoLast = true
is_constant_last names (Last sel) = is_constant_sel names sel

-- a wire or a wire output, with constant selects
abbrev pub drives_wire : Names → RefOf ℕ → Bool
drives_wire names (RefWith id index last) =
    is_wire (value_of names id.name) && (is_constant_index names index && is_constant_last names last)

-- an expression that has the form of a target, and all of whose names are wires or wire outputs with constant selects
abbrev mutual
  pub is_wire_target : Names → ExprOf ℕ → Bool
  is_wire_target names (UnaryExpr None prim) = is_wire_prim names prim
  is_wire_target names (UnaryExpr (Some s) prim) = false
  is_wire_target names (BinaryExpr a op b) = false
  is_wire_target names (ChoiceExpr c a b) = false

  pub is_wire_prim : Names → PrimOf ℕ → Bool
  is_wire_prim names (NumberPrim n) = false
  is_wire_prim names (RefPrim r) = drives_wire names r
  is_wire_prim names (ParenPrim line e) = false
  is_wire_prim names (ConcatPrim line es) = are_wire_targets names es
  is_wire_prim names (RepeatPrim line count es) = false

  pub are_wire_targets : Names → ExprsOf ℕ → Bool
  are_wire_targets names NoExprs = true
  are_wire_targets names (MoreExprs e es) = is_wire_target names e && are_wire_targets names es
