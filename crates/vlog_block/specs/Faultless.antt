-- Statements in whose expressions and targets nothing is found (this project's profile: no E4, E5 or E6).
use Rattle.std.specs.Prelude.{◌≡◌, ℕ, []}
use Rattle.std.specs.List.{AllByRecursion}
use Rattle.vlog_tree.specs.Tree.{ExprOf, TargetOf, StmtOf, BeginStmt, IfStmt, CaseStmt, AssignStmt, StmtsOf, NoStmts, MoreStmts}
use Rattle.vlog_tree.specs.Tree.{ArmOf, LabelsArm, DefaultArm, ArmsOf, NoArms, MoreArms, BodyOf, StmtBody, EmptyBody, ElseOf, NoElse, Else}
use Rattle.vlog_size.specs.Names.{Readable}
use Rattle.vlog_size.specs.Size.{sizes_of, sizes_of_target, faults}

abbrev pub IsFaultless : Readable → ExprOf ℕ → Type 0
IsFaultless r e = faults (sizes_of r e) ≡ []

abbrev pub IsFaultlessTarget : Readable → TargetOf ℕ → Type 0
IsFaultlessTarget r t = faults (sizes_of_target r t) ≡ []

abbrev mutual
  pub IsFaultlessStmt : Readable → StmtOf ℕ → Type 0
  IsFaultlessStmt r (BeginStmt ss) = AreFaultlessStmts r ss
  IsFaultlessStmt r (IfStmt c b other) = IsFaultless r c × IsFaultlessBody r b × IsFaultlessElse r other
  IsFaultlessStmt r (CaseStmt subject arms) = IsFaultless r subject × AreFaultlessArms r arms
  IsFaultlessStmt r (AssignStmt target op e) = IsFaultlessTarget r target × IsFaultless r e

  pub AreFaultlessStmts : Readable → StmtsOf ℕ → Type 0
  AreFaultlessStmts r NoStmts = Unit {0}
  AreFaultlessStmts r (MoreStmts s ss) = IsFaultlessStmt r s × AreFaultlessStmts r ss

  pub IsFaultlessBody : Readable → BodyOf ℕ → Type 0
  IsFaultlessBody r (StmtBody s) = IsFaultlessStmt r s
  IsFaultlessBody r EmptyBody = Unit {0}

  pub IsFaultlessElse : Readable → ElseOf ℕ → Type 0
  IsFaultlessElse r NoElse = Unit {0}
  IsFaultlessElse r (Else b) = IsFaultlessBody r b

  pub IsFaultlessArm : Readable → ArmOf ℕ → Type 0
  IsFaultlessArm r (LabelsArm labels b) = AllByRecursion (λ (e : ExprOf ℕ). IsFaultless r e) labels × IsFaultlessBody r b
  IsFaultlessArm r (DefaultArm line colon b) = IsFaultlessBody r b

  pub AreFaultlessArms : Readable → ArmsOf ℕ → Type 0
  AreFaultlessArms r NoArms = Unit {0}
  AreFaultlessArms r (MoreArms a rest) = IsFaultlessArm r a × AreFaultlessArms r rest
