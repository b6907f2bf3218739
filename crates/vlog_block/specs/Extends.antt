-- Statements and guards of code to which others were added, with what these do (clauses of private functions).
use Rattle.std.specs.Prelude.{◌≡◌, ℕ, ◌≤◌, Bool, ◌&&◌, ◌||◌, not, true, false, List, [], ◌∷◌, ◌++◌, if◌then◌else◌}
use Rattle.std.specs.List.{AllByRecursion}
use Rattle.vlog_tree.specs.Tree.{ExprOf, StmtOf, StmtsOf, ArmOf, LabelsArm, DefaultArm, ArmsOf, NoArms, MoreArms, BodyOf, ElseOf}
use Rattle.vlog_size.specs.Names.{Readable}
use Rattle.net_design.specs.declared.act.Act.{Act}
use Rattle.net_design.specs.declared.act.Guard.{Guard}
use Rattle.net_design.specs.declared.act.Timing.{Timing}
use Rattle.net_design.specs.declared.values.Values.{Values}
use Rattle.net_design.specs.declared.values.Update.{Update}
use Rattle.net_design.specs.Updates.{seen, block_updates, guard_updates}
use Rattle.net_design.specs.Bits.{BitSet, no_bits, known_after, block_writes, block_adds, block_open_reads}
use Rattle.net_design.specs.Sized.{IsSizedBlock, AreSizedGuards}
use Rattle.net_code.specs.Found.{guard_writes, guard_adds, guard_reads}
use Rattle.vlog_block.specs.Value.{value, width_of}
use Rattle.vlog_block.specs.Bits.{reads}
use Rattle.vlog_block.specs.Updates.{is_zero, stmt_updates, stmts_updates, body_updates, else_updates, arm_updates, arms_updates}
use Rattle.vlog_block.specs.Updates.{default_updates}
use Rattle.vlog_block.specs.Written.{writes, stmts_write, body_writes, else_writes, arm_writes, arms_write, default_writes}
use Rattle.vlog_block.specs.Written.{adds, stmts_add, body_adds, else_adds, arm_adds, arms_add, default_adds}
use Rattle.vlog_block.specs.Written.{open_reads, stmts_open, body_open, else_open, arm_open, arms_open, default_open, arm_labels_read}
use Rattle.vlog_block.specs.Written.{labels_read}
use Rattle.vlog_block.specs.Naming.{Naming, code_names, guard_names, stmt_names, stmts_names, body_names, else_names, arms_names, arm_names}
use Rattle.vlog_block.specs.Naming.{default_names}
use Rattle.vlog_block.specs.Faultless.{IsFaultless, IsFaultlessBody}

-- what statements do: their updates, the bits that they may write, those that they surely assign, those that they read, and what they name
pub record Doing : Type 0 where
  pub updates : Timing → Values → List Update
  pub writes : BitSet
  pub adds : BitSet
  pub reads : Timing → BitSet → BitSet
  pub names : List Naming

-- `new` is `old` and then statements that do this
pub record Extends (does : Doing) (old new : List Act) : Type 0 where
  pub updates : (t : Timing) (v : Values)
      → block_updates t new v ≡ block_updates t old v ++ does.updates t (seen t (block_updates t old v) v)
  pub writes : (m k : ℕ) → block_writes new m k ≡ (block_writes old m k || does.writes m k)
  pub adds : (m k : ℕ) → block_adds new m k ≡ (block_adds old m k || does.adds m k)
  pub reads : (t : Timing) (known : BitSet) (m k : ℕ)
      → block_open_reads t new known m k
      ≡ (block_open_reads t old known m k || does.reads t (known_after t known (block_adds old)) m k)
  pub names : code_names new ≡ code_names old ++ does.names
  pub sized : IsSizedBlock old → IsSizedBlock new

-- statements of code
abbrev pub doing_block : List Act → Doing
doing_block acts = record {
  updates = λ t v. block_updates t acts v;
  writes = λ m k. block_writes acts m k;
  adds = λ m k. block_adds acts m k;
  reads = λ t known m k. block_open_reads t acts known m k;
  names = code_names acts;
}

-- a choice of code
abbrev pub doing_branch : List Guard → List Act → Doing
doing_branch guards others = record {
  updates = λ t v. guard_updates t guards (block_updates t others v) v;
  writes = λ m k. guard_writes guards m k || block_writes others m k;
  adds = λ m k. guard_adds guards m k && block_adds others m k;
  reads = λ t known m k. guard_reads t guards known m k || block_open_reads t others known m k;
  names = guard_names guards ++ code_names others;
}

-- one of two lists of statements of code, by a condition of the trees
abbrev pub doing_if : Readable → ExprOf ℕ → List Act → List Act → Doing
doing_if r c acts others = record {
  updates = λ t v. if is_zero r v c then block_updates t others v else block_updates t acts v;
  writes = λ m k. block_writes acts m k || block_writes others m k;
  adds = λ m k. block_adds acts m k && block_adds others m k;
  reads = λ t known m k.
      (reads r c m k && not (known m k)) || (block_open_reads t acts known m k || block_open_reads t others known m k);
  names = code_names acts ++ code_names others;
}

-- the reading of an expression of the trees
abbrev pub doing_read : Readable → ExprOf ℕ → Doing
doing_read r e = record {
  updates = λ t v. [];
  writes = λ m k. no_bits m k;
  adds = λ m k. no_bits m k;
  reads = λ t known m k. reads r e m k && not (known m k);
  names = [];
}

abbrev pub doing_stmt : Readable → StmtOf ℕ → Doing
doing_stmt r s = record {
  updates = λ t v. stmt_updates r t s v;
  writes = λ m k. writes r s m k;
  adds = λ m k. adds r s m k;
  reads = λ t known m k. open_reads r t s known m k;
  names = stmt_names r s;
}

abbrev pub doing_stmts : Readable → StmtsOf ℕ → Doing
doing_stmts r ss = record {
  updates = λ t v. stmts_updates r t ss v;
  writes = λ m k. stmts_write r ss m k;
  adds = λ m k. stmts_add r ss m k;
  reads = λ t known m k. stmts_open r t ss known m k;
  names = stmts_names r ss;
}

abbrev pub doing_body : Readable → BodyOf ℕ → Doing
doing_body r b = record {
  updates = λ t v. body_updates r t b v;
  writes = λ m k. body_writes r b m k;
  adds = λ m k. body_adds r b m k;
  reads = λ t known m k. body_open r t b known m k;
  names = body_names r b;
}

abbrev pub doing_else : Readable → ElseOf ℕ → Doing
doing_else r other = record {
  updates = λ t v. else_updates r t other v;
  writes = λ m k. else_writes r other m k;
  adds = λ m k. else_adds r other m k;
  reads = λ t known m k. else_open r t other known m k;
  names = else_names r other;
}

abbrev pub doing_default : Readable → ArmsOf ℕ → Doing
doing_default r arms = record {
  updates = λ t v. default_updates r t arms v;
  writes = λ m k. default_writes r arms m k;
  adds = λ m k. default_adds r arms m k;
  reads = λ t known m k. default_open r t arms known m k;
  names = default_names r arms;
}

-- what guards do, where the updates are known that come where none of them is true
pub record Choosing : Type 0 where
  pub updates : Timing → List Update → Values → List Update
  pub writes : BitSet
  pub adds : BitSet
  pub reads : Timing → BitSet → BitSet
  pub names : List Naming

-- `new` are the guards `old` and then others that do this
pub record Lengthens (does : Choosing) (old new : List Guard) : Type 0 where
  pub updates : (t : Timing) (us : List Update) (v : Values) → guard_updates t new us v ≡ guard_updates t old (does.updates t us v) v
  pub writes : (m k : ℕ) → guard_writes new m k ≡ (guard_writes old m k || does.writes m k)
  pub adds : (m k : ℕ) → guard_adds new m k ≡ (guard_adds old m k && does.adds m k)
  pub reads : (t : Timing) (known : BitSet) (m k : ℕ)
      → guard_reads t new known m k ≡ (guard_reads t old known m k || does.reads t known m k)
  pub names : guard_names new ≡ guard_names old ++ does.names
  pub sized : AreSizedGuards old → AreSizedGuards new

-- whether there is a label: in a list, in an arm, in some arms
abbrev pub has_some : List (ExprOf ℕ) → Bool
has_some [] = false
has_some (e ∷ es) = true

abbrev pub arm_has_label : ArmOf ℕ → Bool
arm_has_label (LabelsArm labels b) = has_some labels
arm_has_label (DefaultArm line colon b) = false

abbrev pub has_label : ArmsOf ℕ → Bool
has_label NoArms = false
has_label (MoreArms a rest) = arm_has_label a || has_label rest

-- a label is compared with the subject, at width w
abbrev pub choosing_arm : Readable → ExprOf ℕ → ℕ → ArmOf ℕ → Choosing
choosing_arm r subject w a = record {
  updates = λ t us v. arm_updates r t a w (value r v subject w) us v;
  writes = λ m k. arm_writes r a m k;
  adds = λ m k. arm_adds r a m k;
  reads = λ t known m k.
      (((arm_has_label a && reads r subject m k) || arm_labels_read r a m k) && not (known m k)) || arm_open r t a known m k;
  names = arm_names r a;
}

abbrev pub choosing_arms : Readable → ExprOf ℕ → ℕ → ArmsOf ℕ → Choosing
choosing_arms r subject w arms = record {
  updates = λ t us v. arms_updates r t arms w (value r v subject w) us v;
  writes = λ m k. arms_write r arms m k;
  adds = λ m k. arms_add r arms m k;
  reads = λ t known m k.
      (((has_label arms && reads r subject m k) || labels_read r arms m k) && not (known m k)) || arms_open r t arms known m k;
  names = arms_names r arms;
}

-- ---- expressions without a fault that are no wider than w

abbrev pub IsNarrow : Readable → ℕ → ExprOf ℕ → Type 0
IsNarrow r w e = IsFaultless r e × (width_of r e ≤ w)

abbrev pub AreNarrow : Readable → ℕ → List (ExprOf ℕ) → Type 0
AreNarrow r w labels = AllByRecursion (λ (e : ExprOf ℕ). IsNarrow r w e) labels

abbrev pub IsNarrowArm : Readable → ℕ → ArmOf ℕ → Type 0
IsNarrowArm r w (LabelsArm labels b) = AreNarrow r w labels × IsFaultlessBody r b
IsNarrowArm r w (DefaultArm line colon b) = IsFaultlessBody r b

abbrev pub AreNarrowArms : Readable → ℕ → ArmsOf ℕ → Type 0
AreNarrowArms r w NoArms = Unit {0}
AreNarrowArms r w (MoreArms a rest) = IsNarrowArm r w a × AreNarrowArms r w rest
