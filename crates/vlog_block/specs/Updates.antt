-- *Updates*: what the statements of an always block change, in the order in which they are executed (IEEE 1364-2005, 9.2 assignments,
-- 9.4 conditions, 9.5 cases, 9.8 blocks; this project's profile). v has the numbers of the scope's nets and words.
use Rattle.std.specs.Prelude.{ℕ, max, ◌==◌, Bool, List, [], ◌∷◌, ◌++◌, if◌then◌else◌}
use Rattle.std.specs.List.{list_any}
use Rattle.vlog_tree.specs.Tree.{ExprOf, TargetOf, StmtOf, BeginStmt, IfStmt, CaseStmt, AssignStmt, StmtsOf, NoStmts, MoreStmts}
use Rattle.vlog_tree.specs.Tree.{ArmOf, LabelsArm, DefaultArm, ArmsOf, NoArms, MoreArms, BodyOf, StmtBody, EmptyBody, ElseOf, NoElse, Else}
use Rattle.vlog_tree.specs.Tree.{EventOf, PosedgeEvent, ImplicitEvent, AlwaysOf}
use Rattle.vlog_size.specs.Names.{Readable}
use Rattle.net_design.specs.declared.act.Timing.{Timing}
use Rattle.net_design.specs.declared.act.Timing.TheVariants.{Blocking, Nonblocking}
use Rattle.net_design.specs.declared.values.Values.{Values}
use Rattle.net_design.specs.declared.values.Update.{Update}
use Rattle.net_design.specs.Updates.{seen}
use Rattle.vlog_block.specs.Value.{value, width_of}
use Rattle.vlog_block.specs.Targets.{target_width, target_updates}

-- an assignment evaluates its expression at the larger of the target's and the expression's width (5.4.1)
abbrev pub assigned_width : Readable → TargetOf ℕ → ExprOf ℕ → ℕ
assigned_width r target e = max (target_width r target) (width_of r e)

abbrev pub assigned : Readable → Values → TargetOf ℕ → ExprOf ℕ → ℕ
assigned r v target e = value r v e (assigned_width r target e)

-- a condition is true where its value isn't 0
abbrev pub is_zero : Readable → Values → ExprOf ℕ → Bool
is_zero r v c = value r v c (width_of r c) == 0

-- ---- `case` compares at the width of its widest expression, be it the subject or a label (9.5)

-- the widest of some expressions and w bits
abbrev pub widest : Readable → List (ExprOf ℕ) → ℕ → ℕ
widest r [] w = w
widest r (e ∷ es) w = widest r es (max w (width_of r e))

abbrev pub arm_widest : Readable → ArmOf ℕ → ℕ → ℕ
arm_widest r (LabelsArm labels b) w = widest r labels w
arm_widest r (DefaultArm line colon b) w = w

abbrev pub arms_widest : Readable → ArmsOf ℕ → ℕ → ℕ
arms_widest r NoArms w = w
arms_widest r (MoreArms a rest) w = arms_widest r rest (arm_widest r a w)

abbrev pub case_width : Readable → ExprOf ℕ → ArmsOf ℕ → ℕ
case_width r subject arms = arms_widest r arms (width_of r subject)

-- whether the subject, whose number at this width is x, equals one of the labels
abbrev pub matches : Readable → Values → List (ExprOf ℕ) → ℕ → ℕ → Bool
matches r v labels w x = list_any (λ (label : ExprOf ℕ). x == value r v label w) labels

-- ---- statements. What the next statement reads is `seen`: in an `always @*` the updates made before it, in a clocked block v alone.

abbrev mutual
  pub stmt_updates : Readable → Timing → StmtOf ℕ → Values → List Update
  stmt_updates r t (BeginStmt ss) v = stmts_updates r t ss v
  stmt_updates r t (IfStmt c b other) v = if is_zero r v c then else_updates r t other v else body_updates r t b v
  stmt_updates r t (CaseStmt subject arms) v =
      arms_updates r t arms (case_width r subject arms) (value r v subject (case_width r subject arms)) (default_updates r t arms v) v
  stmt_updates r t (AssignStmt target op e) v = target_updates r v target (assigned r v target e)

  pub stmts_updates : Readable → Timing → StmtsOf ℕ → Values → List Update
  stmts_updates r t NoStmts v = []
  stmts_updates r t (MoreStmts s ss) v = stmt_updates r t s v ++ stmts_updates r t ss (seen t (stmt_updates r t s v) v)

  pub body_updates : Readable → Timing → BodyOf ℕ → Values → List Update
  body_updates r t (StmtBody s) v = stmt_updates r t s v
  body_updates r t EmptyBody v = []

  -- an `if` without `else` has an empty one
  pub else_updates : Readable → Timing → ElseOf ℕ → Values → List Update
  else_updates r t NoElse v = []
  else_updates r t (Else b) v = body_updates r t b v

  -- the first arm with a label that the subject equals, else us; w is the width of the comparison and x the subject's number
  pub arms_updates : Readable → Timing → ArmsOf ℕ → ℕ → ℕ → List Update → Values → List Update
  arms_updates r t NoArms w x us v = us
  arms_updates r t (MoreArms a rest) w x us v = arm_updates r t a w x (arms_updates r t rest w x us v) v

  pub arm_updates : Readable → Timing → ArmOf ℕ → ℕ → ℕ → List Update → Values → List Update
  arm_updates r t (LabelsArm labels b) w x us v = if matches r v labels w x then body_updates r t b v else us
  arm_updates r t (DefaultArm line colon b) w x us v = us

  -- `default`, wherever it stands; a `case` without one has an empty one
  pub default_updates : Readable → Timing → ArmsOf ℕ → Values → List Update
  default_updates r t NoArms v = []
  default_updates r t (MoreArms (LabelsArm labels b) rest) v = default_updates r t rest v
  default_updates r t (MoreArms (DefaultArm line colon b) rest) v = body_updates r t b v

-- ---- blocks: in an `always @*` assignments take effect at once (9.2.1), in a clocked block once it was executed (9.2.2)

abbrev pub timing_of : EventOf ℕ → Timing
timing_of (PosedgeEvent clock) = Nonblocking
timing_of (ImplicitEvent parens) = Blocking

-- *Updates* of an always block
abbrev pub always_updates : Readable → AlwaysOf ℕ → Values → List Update
always_updates r a v = body_updates r (timing_of a.event) a.body v
