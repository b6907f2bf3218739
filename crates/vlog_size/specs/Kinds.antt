-- What is wrong with the names in one expression, as lists of findings in text order: E4, a name that isn't declared,
-- and E7, a name of a wrong kind.
use Rattle.std.specs.Prelude.{ℕ, Bool, true, false, List, [], ◌++◌, Option, Some, None, is_none}
use Rattle.vlog_tree.specs.Tree.{ExprOf, UnaryExpr, BinaryExpr, ChoiceExpr, PrimOf, NumberPrim, RefPrim, ParenPrim, ConcatPrim}
use Rattle.vlog_tree.specs.Tree.{RepeatPrim, RefOf}
use Rattle.vlog_tree.specs.Tree.{RefWith, IndexOf, NoIndex, Index, LastOf, NoLast, Last, SelOf, IndexSel, PartSel, IndexedSel, ExprsOf}
use Rattle.vlog_tree.specs.Tree.{NoExprs, MoreExprs}
use Rattle.vlog_tree.specs.vidi_bits.Findings.{told_if}

-- what a name is declared as; the words of a memory are scalars or vectors
pub data Class : Type 0 where
  IsParameter : Class
  IsScalar : Class
  IsVector : Class
  IsScalarMemory : Class
  IsVectorMemory : Class
  IsInstance : Class

-- whether a name of this class, with these brackets, is of a wrong kind in an expression:
-- a scalar or parameter with an index, a net with two brackets, a memory without index, an instance name
abbrev pub is_wrong_kind : Class → IndexOf ℕ → LastOf ℕ → Bool
is_wrong_kind IsParameter NoIndex NoLast = false
is_wrong_kind IsScalar NoIndex NoLast = false
is_wrong_kind IsVector NoIndex last = false
is_wrong_kind IsScalarMemory NoIndex (Last (IndexSel e)) = false
is_wrong_kind IsVectorMemory NoIndex (Last (IndexSel e)) = false
is_wrong_kind IsVectorMemory (Index e) last = false
is_wrong_kind _ index last = true

-- of a name that isn't declared E4 speaks
abbrev pub is_wrong_use : Option Class → IndexOf ℕ → LastOf ℕ → Bool
is_wrong_use None index last = false
is_wrong_use (Some class) index last = is_wrong_kind class index last

-- what is found at each name that is read, in text order
abbrev mutual
  pub at_names : {A : Type 0} → (RefOf ℕ → List A) → ExprOf ℕ → List A
  at_names found (UnaryExpr sign prim) = at_names_of_prim found prim
  at_names found (BinaryExpr a op b) = at_names found a ++ at_names found b
  at_names found (ChoiceExpr c a b) = at_names found c ++ (at_names found a ++ at_names found b)

  pub at_names_of_prim : {A : Type 0} → (RefOf ℕ → List A) → PrimOf ℕ → List A
  at_names_of_prim found (NumberPrim n) = []
  at_names_of_prim found (RefPrim r) = at_names_of_ref found r
  at_names_of_prim found (ParenPrim line e) = at_names found e
  at_names_of_prim found (ConcatPrim line es) = at_names_of_all found es
  at_names_of_prim found (RepeatPrim line count es) = at_names found count ++ at_names_of_all found es

  pub at_names_of_ref : {A : Type 0} → (RefOf ℕ → List A) → RefOf ℕ → List A
  at_names_of_ref found (RefWith id index last) =
      found (RefWith id index last) ++ (at_names_of_index found index ++ at_names_of_last found last)

  pub at_names_of_index : {A : Type 0} → (RefOf ℕ → List A) → IndexOf ℕ → List A
  at_names_of_index found NoIndex = []
  at_names_of_index found (Index e) = at_names found e

  pub at_names_of_last : {A : Type 0} → (RefOf ℕ → List A) → LastOf ℕ → List A
  at_names_of_last found NoLast = []
  at_names_of_last found (Last sel) = at_names_of_sel found sel

  pub at_names_of_sel : {A : Type 0} → (RefOf ℕ → List A) → SelOf ℕ → List A
  at_names_of_sel found (IndexSel e) = at_names found e
  at_names_of_sel found (PartSel a b) = at_names found a ++ at_names found b
  at_names_of_sel found (IndexedSel base width) = at_names found base ++ at_names found width

  pub at_names_of_all : {A : Type 0} → (RefOf ℕ → List A) → ExprsOf ℕ → List A
  at_names_of_all found NoExprs = []
  at_names_of_all found (MoreExprs e es) = at_names found e ++ at_names_of_all found es

-- E4: the name, where it isn't declared
abbrev pub unknown_name : (List ℕ → Option Class) → RefOf ℕ → List (List ℕ)
unknown_name class_of (RefWith id index last) = told_if (is_none (class_of id.name)) id.name

-- E7: the line of the name, where it is of a wrong kind
abbrev pub wrong_kind : (List ℕ → Option Class) → RefOf ℕ → List ℕ
wrong_kind class_of (RefWith id index last) = told_if (is_wrong_use (class_of id.name) index last) id.line

-- E4 of one expression
abbrev pub unknown_names : (List ℕ → Option Class) → ExprOf ℕ → List (List ℕ)
unknown_names class_of e = at_names (unknown_name class_of) e

-- E7 of one expression
abbrev pub wrong_kinds : (List ℕ → Option Class) → ExprOf ℕ → List ℕ
wrong_kinds class_of e = at_names (wrong_kind class_of) e
