-- The bits of nets that targets and statements write, surely assign and read (this project's profile). A select of a net at a constant
-- place writes its bits that are in range, and surely assigns them; any other may write each bit of the net, and surely assigns none.
-- Words of memories are no bits of nets. An `if` without `else` and a `case` without `default` have an empty arm.
use Rattle.std.specs.Prelude.{ℕ, Bool, ◌&&◌, ◌||◌, not, true, false, Option, None, Some}
use Rattle.std.specs.List.{list_any}
use Rattle.vlog_tree.specs.Tree.{RefWith, IndexOf, NoIndex, Index, LastOf, NoLast, Last}
use Rattle.vlog_tree.specs.Tree.{ExprOf, TargetOf, RefTarget, ConcatTarget, TargetsOf, NoTargets, MoreTargets}
use Rattle.vlog_tree.specs.Tree.{StmtOf, BeginStmt, IfStmt, CaseStmt, AssignStmt, StmtsOf, NoStmts, MoreStmts}
use Rattle.vlog_tree.specs.Tree.{ArmOf, LabelsArm, DefaultArm, ArmsOf, NoArms, MoreArms, BodyOf, StmtBody, EmptyBody, ElseOf, NoElse, Else}
use Rattle.vlog_tree.specs.Tree.{AlwaysOf}
use Rattle.vlog_size.specs.Names.{Readable}
use Rattle.net_design.specs.declared.rhs.Span.{Span}
use Rattle.net_design.specs.declared.act.Timing.{Timing}
use Rattle.net_design.specs.Bits.{BitSet, bits_of, no_bits, known_after}
use Rattle.vlog_block.specs.declared.source.Source.{Source}
use Rattle.vlog_block.specs.declared.source.Source.TheVariants.{Net, Memory}
use Rattle.vlog_block.specs.Sources.{source_of}
use Rattle.vlog_block.specs.Value.{picked}
use Rattle.vlog_block.specs.Places.{constant_low}
use Rattle.vlog_block.specs.Bits.{bits_from, word_reads, lone_reads, reads, index_reads, last_reads}
use Rattle.vlog_block.specs.Updates.{timing_of}

-- ---- targets

-- w bits of a net from a place on
abbrev pub part_writes : Span → Option ℕ → ℕ → BitSet
part_writes span (Some low) w m k = bits_from span low w m k
part_writes span None w m k = bits_of span m k

abbrev pub part_adds : Span → Option ℕ → ℕ → BitSet
part_adds span (Some low) w m k = bits_from span low w m k
part_adds span None w m k = false

-- a net, or a select of it
abbrev pub net_writes : Readable → Span → LastOf ℕ → BitSet
net_writes r span NoLast m k = bits_of span m k
net_writes r span (Last sel) m k = part_writes span (constant_low r sel) (picked r (Last sel) span.width) m k

abbrev pub net_adds : Readable → Span → LastOf ℕ → BitSet
net_adds r span NoLast m k = bits_of span m k
net_adds r span (Last sel) m k = part_adds span (constant_low r sel) (picked r (Last sel) span.width) m k

abbrev pub source_writes : Readable → Source → LastOf ℕ → BitSet
source_writes r (Net span) last m k = net_writes r span last m k
source_writes r _ last m k = false

abbrev pub source_adds : Readable → Source → LastOf ℕ → BitSet
source_adds r (Net span) last m k = net_adds r span last m k
source_adds r _ last m k = false

-- the indexes of what is written, where it is known whether these read the bit
abbrev pub places_read : Source → IndexOf ℕ → LastOf ℕ → Bool → Bool → Bool
places_read (Net span) index last at_word at_place = at_place
places_read (Memory room n) (Index i) last at_word at_place = word_reads last at_word at_place
places_read (Memory room n) NoIndex last at_word at_place = lone_reads last at_place
places_read _ index last at_word at_place = false

abbrev mutual
  pub target_writes : Readable → TargetOf ℕ → BitSet
  target_writes r (RefTarget (RefWith id index last)) m k = source_writes r (source_of r id.name) last m k
  target_writes r (ConcatTarget line ts) m k = targets_write r ts m k

  pub targets_write : Readable → TargetsOf ℕ → BitSet
  targets_write r NoTargets m k = false
  targets_write r (MoreTargets t ts) m k = target_writes r t m k || targets_write r ts m k

abbrev mutual
  pub target_adds : Readable → TargetOf ℕ → BitSet
  target_adds r (RefTarget (RefWith id index last)) m k = source_adds r (source_of r id.name) last m k
  target_adds r (ConcatTarget line ts) m k = targets_add r ts m k

  pub targets_add : Readable → TargetsOf ℕ → BitSet
  targets_add r NoTargets m k = false
  targets_add r (MoreTargets t ts) m k = target_adds r t m k || targets_add r ts m k

-- the bits that a target's indexes read
abbrev mutual
  pub target_reads : Readable → TargetOf ℕ → BitSet
  target_reads r (RefTarget (RefWith id index last)) m k =
      places_read (source_of r id.name) index last (index_reads r index m k) (last_reads r last m k)
  target_reads r (ConcatTarget line ts) m k = targets_read r ts m k

  pub targets_read : Readable → TargetsOf ℕ → BitSet
  targets_read r NoTargets m k = false
  targets_read r (MoreTargets t ts) m k = target_reads r t m k || targets_read r ts m k

-- ---- the bits that statements may write, on any path, whatever their conditions say

abbrev mutual
  pub writes : Readable → StmtOf ℕ → BitSet
  writes r (BeginStmt ss) m k = stmts_write r ss m k
  writes r (IfStmt c b other) m k = body_writes r b m k || else_writes r other m k
  writes r (CaseStmt subject arms) m k = arms_write r arms m k || default_writes r arms m k
  writes r (AssignStmt target op e) m k = target_writes r target m k

  pub stmts_write : Readable → StmtsOf ℕ → BitSet
  stmts_write r NoStmts m k = false
  stmts_write r (MoreStmts s ss) m k = writes r s m k || stmts_write r ss m k

  pub body_writes : Readable → BodyOf ℕ → BitSet
  body_writes r (StmtBody s) m k = writes r s m k
  body_writes r EmptyBody m k = false

  pub else_writes : Readable → ElseOf ℕ → BitSet
  else_writes r NoElse m k = false
  else_writes r (Else b) m k = body_writes r b m k

  -- the arms with labels
  pub arms_write : Readable → ArmsOf ℕ → BitSet
  arms_write r NoArms m k = false
  arms_write r (MoreArms a rest) m k = arm_writes r a m k || arms_write r rest m k

  pub arm_writes : Readable → ArmOf ℕ → BitSet
  arm_writes r (LabelsArm labels b) m k = body_writes r b m k
  arm_writes r (DefaultArm line colon b) m k = false

  pub default_writes : Readable → ArmsOf ℕ → BitSet
  default_writes r NoArms m k = false
  default_writes r (MoreArms (LabelsArm labels b) rest) m k = default_writes r rest m k
  default_writes r (MoreArms (DefaultArm line colon b) rest) m k = body_writes r b m k

-- ---- the bits that they surely assign: an assignment those of its target, `if` and `case` those that all arms assign

abbrev mutual
  pub adds : Readable → StmtOf ℕ → BitSet
  adds r (BeginStmt ss) m k = stmts_add r ss m k
  adds r (IfStmt c b other) m k = body_adds r b m k && else_adds r other m k
  adds r (CaseStmt subject arms) m k = arms_add r arms m k && default_adds r arms m k
  adds r (AssignStmt target op e) m k = target_adds r target m k

  pub stmts_add : Readable → StmtsOf ℕ → BitSet
  stmts_add r NoStmts m k = false
  stmts_add r (MoreStmts s ss) m k = adds r s m k || stmts_add r ss m k

  pub body_adds : Readable → BodyOf ℕ → BitSet
  body_adds r (StmtBody s) m k = adds r s m k
  body_adds r EmptyBody m k = false

  pub else_adds : Readable → ElseOf ℕ → BitSet
  else_adds r NoElse m k = false
  else_adds r (Else b) m k = body_adds r b m k

  -- each arm with labels
  pub arms_add : Readable → ArmsOf ℕ → BitSet
  arms_add r NoArms m k = true
  arms_add r (MoreArms a rest) m k = arm_adds r a m k && arms_add r rest m k

  pub arm_adds : Readable → ArmOf ℕ → BitSet
  arm_adds r (LabelsArm labels b) m k = body_adds r b m k
  arm_adds r (DefaultArm line colon b) m k = true

  pub default_adds : Readable → ArmsOf ℕ → BitSet
  default_adds r NoArms m k = false
  default_adds r (MoreArms (LabelsArm labels b) rest) m k = default_adds r rest m k
  default_adds r (MoreArms (DefaultArm line colon b) rest) m k = body_adds r b m k

-- ---- the bits that they read, on any path, but for those of `known`, which were surely assigned before

-- the labels of an arm, and of all arms
abbrev pub arm_labels_read : Readable → ArmOf ℕ → BitSet
arm_labels_read r (LabelsArm labels b) m k = list_any (λ (e : ExprOf ℕ). reads r e m k) labels
arm_labels_read r (DefaultArm line colon b) m k = false

abbrev pub labels_read : Readable → ArmsOf ℕ → BitSet
labels_read r NoArms m k = false
labels_read r (MoreArms a rest) m k = arm_labels_read r a m k || labels_read r rest m k

-- a condition, and a subject with all labels, is read before what the arms assign
abbrev mutual
  pub open_reads : Readable → Timing → StmtOf ℕ → BitSet → BitSet
  open_reads r t (BeginStmt ss) known m k = stmts_open r t ss known m k
  open_reads r t (IfStmt c b other) known m k =
      (reads r c m k && not (known m k)) || (body_open r t b known m k || else_open r t other known m k)
  open_reads r t (CaseStmt subject arms) known m k =
      ((reads r subject m k || labels_read r arms m k) && not (known m k))
      || (arms_open r t arms known m k || default_open r t arms known m k)
  open_reads r t (AssignStmt target op e) known m k = (reads r e m k || target_reads r target m k) && not (known m k)

  -- what is known to the next statement is `known_after`: in an `always @*` also what this one surely assigns
  pub stmts_open : Readable → Timing → StmtsOf ℕ → BitSet → BitSet
  stmts_open r t NoStmts known m k = false
  stmts_open r t (MoreStmts s ss) known m k = open_reads r t s known m k || stmts_open r t ss (known_after t known (adds r s)) m k

  pub body_open : Readable → Timing → BodyOf ℕ → BitSet → BitSet
  body_open r t (StmtBody s) known m k = open_reads r t s known m k
  body_open r t EmptyBody known m k = false

  pub else_open : Readable → Timing → ElseOf ℕ → BitSet → BitSet
  else_open r t NoElse known m k = false
  else_open r t (Else b) known m k = body_open r t b known m k

  -- the arms with labels, without these
  pub arms_open : Readable → Timing → ArmsOf ℕ → BitSet → BitSet
  arms_open r t NoArms known m k = false
  arms_open r t (MoreArms a rest) known m k = arm_open r t a known m k || arms_open r t rest known m k

  pub arm_open : Readable → Timing → ArmOf ℕ → BitSet → BitSet
  arm_open r t (LabelsArm labels b) known m k = body_open r t b known m k
  arm_open r t (DefaultArm line colon b) known m k = false

  pub default_open : Readable → Timing → ArmsOf ℕ → BitSet → BitSet
  default_open r t NoArms known m k = false
  default_open r t (MoreArms (LabelsArm labels b) rest) known m k = default_open r t rest known m k
  default_open r t (MoreArms (DefaultArm line colon b) rest) known m k = body_open r t b known m k

-- ---- whole blocks

-- the bits that a block may write
abbrev pub always_writes : Readable → AlwaysOf ℕ → BitSet
always_writes r a m k = body_writes r a.body m k

-- those that it surely assigns
abbrev pub always_adds : Readable → AlwaysOf ℕ → BitSet
always_adds r a m k = body_adds r a.body m k

-- those that it reads: an `always @*` those that it didn't surely assign before, a clocked block all that it names
abbrev pub always_reads : Readable → AlwaysOf ℕ → BitSet
always_reads r a m k = body_open r (timing_of a.event) a.body no_bits m k
