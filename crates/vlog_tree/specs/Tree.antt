-- The trees of the grammar as plain data. A is the type of what stands in the place of a line.
use Rattle.std.specs.Prelude.{ℕ, Bool, List, [], ◌∷◌, Option}
use Rattle.vlog_tree.specs.declared.expr.NumberKind.{NumberKind}
use Rattle.vlog_tree.specs.declared.expr.UnaryOp.{UnaryOp}
use Rattle.vlog_tree.specs.declared.expr.BinaryOp.{BinaryOp}
use Rattle.vlog_tree.specs.declared.stmt.AssignOp.{AssignOp}
use Rattle.vlog_tree.specs.declared.module.Direction.{Direction}

-- id
pub record IdentOf (A : Type 0) : Type 0 where
  pub name : List ℕ
  pub line : A

-- number
pub record NumberOf (A : Type 0) : Type 0 where
  pub kind : NumberKind
  pub text : List ℕ
  pub line : A

-- the operator of a unary
pub record SignOf (A : Type 0) : Type 0 where
  pub op : UnaryOp
  pub line : A

mutual
  pub data ExprOf (A : Type 0) : Type 0 where
    -- the rule `unary`
    UnaryExpr : Option (SignOf A) → PrimOf A → ExprOf A
    BinaryExpr : ExprOf A → BinaryOp → ExprOf A → ExprOf A
    -- `condition ? then_value : else_value`
    ChoiceExpr : ExprOf A → ExprOf A → ExprOf A → ExprOf A

  pub data PrimOf (A : Type 0) : Type 0 where
    NumberPrim : NumberOf A → PrimOf A
    RefPrim : RefOf A → PrimOf A
    -- the line of `(`
    ParenPrim : A → ExprOf A → PrimOf A
    -- the line of `{`
    ConcatPrim : A → ExprsOf A → PrimOf A
    -- the line of the first `{`, the count, and the parts that are repeated
    RepeatPrim : A → ExprOf A → ExprsOf A → PrimOf A

  -- a name, the first of two brackets, and the last bracket
  pub data RefOf (A : Type 0) : Type 0 where
    RefWith : IdentOf A → IndexOf A → LastOf A → RefOf A

  pub data IndexOf (A : Type 0) : Type 0 where
    NoIndex : IndexOf A
    Index : ExprOf A → IndexOf A

  pub data LastOf (A : Type 0) : Type 0 where
    NoLast : LastOf A
    Last : SelOf A → LastOf A

  pub data SelOf (A : Type 0) : Type 0 where
    IndexSel : ExprOf A → SelOf A
    -- `first:second`
    PartSel : ExprOf A → ExprOf A → SelOf A
    -- `base +: width`
    IndexedSel : ExprOf A → ExprOf A → SelOf A

  pub data ExprsOf (A : Type 0) : Type 0 where
    NoExprs : ExprsOf A
    MoreExprs : ExprOf A → ExprsOf A → ExprsOf A

abbrev pub exprs_of : {A : Type 0} → List (ExprOf A) → ExprsOf A
exprs_of [] = NoExprs
exprs_of (e ∷ es) = MoreExprs e (exprs_of es)

mutual
  pub data TargetOf (A : Type 0) : Type 0 where
    RefTarget : RefOf A → TargetOf A
    -- the line of `{`
    ConcatTarget : A → TargetsOf A → TargetOf A

  pub data TargetsOf (A : Type 0) : Type 0 where
    NoTargets : TargetsOf A
    MoreTargets : TargetOf A → TargetsOf A → TargetsOf A

abbrev pub targets_of : {A : Type 0} → List (TargetOf A) → TargetsOf A
targets_of [] = NoTargets
targets_of (t ∷ ts) = MoreTargets t (targets_of ts)

mutual
  pub data StmtOf (A : Type 0) : Type 0 where
    BeginStmt : StmtsOf A → StmtOf A
    IfStmt : ExprOf A → BodyOf A → ElseOf A → StmtOf A
    CaseStmt : ExprOf A → ArmsOf A → StmtOf A
    AssignStmt : TargetOf A → AssignOp → ExprOf A → StmtOf A

  -- an arm of a `case`
  pub data ArmOf (A : Type 0) : Type 0 where
    LabelsArm : List (ExprOf A) → BodyOf A → ArmOf A
    -- the line of `default`, and whether a colon stands behind it
    DefaultArm : A → Bool → BodyOf A → ArmOf A

  pub data ArmsOf (A : Type 0) : Type 0 where
    NoArms : ArmsOf A
    MoreArms : ArmOf A → ArmsOf A → ArmsOf A

  pub data BodyOf (A : Type 0) : Type 0 where
    StmtBody : StmtOf A → BodyOf A
    EmptyBody : BodyOf A

  pub data ElseOf (A : Type 0) : Type 0 where
    NoElse : ElseOf A
    Else : BodyOf A → ElseOf A

  pub data StmtsOf (A : Type 0) : Type 0 where
    NoStmts : StmtsOf A
    MoreStmts : StmtOf A → StmtsOf A → StmtsOf A

abbrev pub stmts_of : {A : Type 0} → List (StmtOf A) → StmtsOf A
stmts_of [] = NoStmts
stmts_of (s ∷ ss) = MoreStmts s (stmts_of ss)

abbrev pub arms_of : {A : Type 0} → List (ArmOf A) → ArmsOf A
arms_of [] = NoArms
arms_of (a ∷ more) = MoreArms a (arms_of more)

pub record RangeOf (A : Type 0) : Type 0 where
  pub first : ExprOf A
  pub second : ExprOf A

-- the word `parameter`, and the range behind it
pub record ParameterHeadOf (A : Type 0) : Type 0 where
  pub range : Option (RangeOf A)

pub record ParameterOf (A : Type 0) : Type 0 where
  pub head : Option (ParameterHeadOf A)
  pub id : IdentOf A
  pub value : ExprOf A

pub record PortHeadOf (A : Type 0) : Type 0 where
  pub direction : Direction
  pub range : Option (RangeOf A)

pub record PortOf (A : Type 0) : Type 0 where
  pub head : Option (PortHeadOf A)
  pub id : IdentOf A
  pub init : Option (ExprOf A)

-- `id = value` of a `wire` or a `localparam`
pub record NamedValueOf (A : Type 0) : Type 0 where
  pub id : IdentOf A
  pub value : ExprOf A

-- what stands after the name of a `reg`
pub data RegTailOf (A : Type 0) : Type 0 where
  InitTail : ExprOf A → RegTailOf A
  MemoryTail : RangeOf A → RegTailOf A

pub record Reg1Of (A : Type 0) : Type 0 where
  pub id : IdentOf A
  pub tail : Option (RegTailOf A)

-- `target = value` of an `assign`
pub record AssignOf (A : Type 0) : Type 0 where
  pub target : TargetOf A
  pub value : ExprOf A

-- what an `always` waits for
pub data EventOf (A : Type 0) : Type 0 where
  PosedgeEvent : IdentOf A → EventOf A
  -- `*`, and whether it stands in parentheses
  ImplicitEvent : Bool → EventOf A

-- the line of `always`
pub record AlwaysOf (A : Type 0) : Type 0 where
  pub line : A
  pub event : EventOf A
  pub body : BodyOf A

-- `.id(value)`, and the line of `.`
pub record ConnOf (A : Type 0) : Type 0 where
  pub line : A
  pub id : IdentOf A
  pub value : Option (ExprOf A)

pub record InstanceOf (A : Type 0) : Type 0 where
  pub module_id : IdentOf A
  pub parameters : List (ConnOf A)
  pub id : IdentOf A
  pub ports : List (ConnOf A)

pub data ItemOf (A : Type 0) : Type 0 where
  WiresItem : Option (RangeOf A) → List (IdentOf A) → ItemOf A
  DrivenWiresItem : Option (RangeOf A) → List (NamedValueOf A) → ItemOf A
  RegsItem : Option (RangeOf A) → List (Reg1Of A) → ItemOf A
  LocalparamsItem : Option (RangeOf A) → List (NamedValueOf A) → ItemOf A
  AssignItem : List (AssignOf A) → ItemOf A
  AlwaysItem : AlwaysOf A → ItemOf A
  InstanceItem : InstanceOf A → ItemOf A

pub record ModuleOf (A : Type 0) : Type 0 where
  pub name : List ℕ
  pub parameters : List (ParameterOf A)
  pub ports : List (PortOf A)
  pub items : List (ItemOf A)

pub record FileOf (A : Type 0) : Type 0 where
  pub modules : List (ModuleOf A)
