-- What targets and statements name, in text order, whatever bits of it are in range: how often a target names a bit of a net, and which
-- nets and memories a block names ("Reasons": E8; this project's profile).
use Rattle.std.specs.Prelude.{ℕ, ◌+◌, List, [], ◌∷◌, ◌++◌, map}
use Rattle.vlog_size.specs.vidi_bits.Number.{truth}
use Rattle.vlog_tree.specs.Tree.{RefWith, IndexOf, NoIndex, Index, LastOf, Last, IndexSel}
use Rattle.vlog_tree.specs.Tree.{TargetOf, RefTarget, ConcatTarget, TargetsOf, NoTargets, MoreTargets}
use Rattle.vlog_tree.specs.Tree.{StmtOf, BeginStmt, IfStmt, CaseStmt, AssignStmt, StmtsOf, NoStmts, MoreStmts}
use Rattle.vlog_tree.specs.Tree.{ArmOf, LabelsArm, DefaultArm, ArmsOf, NoArms, MoreArms, BodyOf, StmtBody, EmptyBody, ElseOf, NoElse, Else}
use Rattle.vlog_tree.specs.Tree.{AlwaysOf}
use Rattle.vlog_size.specs.Names.{Readable}
use Rattle.net_design.specs.declared.rhs.Room.{Room}
use Rattle.net_design.specs.declared.act.Place.{Place}
use Rattle.net_design.specs.declared.act.Place.TheVariants.{Bits as PlaceBits, BitsFrom, Word as PlaceWord, WordFrom}
use Rattle.net_design.specs.declared.act.Act.{Act}
use Rattle.net_design.specs.declared.act.Guard.{Guard}
use Rattle.net_code.specs.Targets.{block_targets, guard_targets}
use Rattle.vlog_block.specs.declared.source.Source.{Source}
use Rattle.vlog_block.specs.declared.source.Source.TheVariants.{Net, Memory}
use Rattle.vlog_block.specs.Sources.{source_of}
use Rattle.vlog_block.specs.Written.{target_writes}

-- a net by its place, or a memory by its first word
pub data Naming : Type 0 where
  NamesNet : ℕ → Naming
  NamesRoom : ℕ → Naming

-- ---- code

abbrev pub place_name : Place → Naming
place_name (PlaceBits s n) = NamesNet s.net
place_name (BitsFrom s i w) = NamesNet s.net
place_name (PlaceWord r i low w n) = NamesRoom r.first
place_name (WordFrom r i size j w) = NamesRoom r.first

abbrev pub place_names : List Place → List Naming
place_names places = map place_name places

abbrev pub code_names : List Act → List Naming
code_names acts = place_names (block_targets acts)

abbrev pub guard_names : List Guard → List Naming
guard_names guards = place_names (guard_targets guards)

-- ---- targets

-- a memory whose index stands in a lone bracket
abbrev pub lone_name : Room → LastOf ℕ → Naming
lone_name room (Last (IndexSel i)) = NamesRoom room.first
lone_name room last = NamesNet 0

-- what can't be written, which E7 refuses, counts as the first net
abbrev pub source_name : Source → IndexOf ℕ → LastOf ℕ → Naming
source_name (Net span) index last = NamesNet span.net
source_name (Memory room n) (Index i) last = NamesRoom room.first
source_name (Memory room n) NoIndex last = lone_name room last
source_name _ index last = NamesNet 0

abbrev mutual
  pub target_names : Readable → TargetOf ℕ → List Naming
  target_names r (RefTarget (RefWith id index last)) = source_name (source_of r id.name) index last ∷ []
  target_names r (ConcatTarget line ts) = targets_names r ts

  pub targets_names : Readable → TargetsOf ℕ → List Naming
  targets_names r NoTargets = []
  targets_names r (MoreTargets t ts) = target_names r t ++ targets_names r ts

-- how often a target names bit k of net m: each of its parts once, where it may write the bit
abbrev mutual
  pub target_count : Readable → TargetOf ℕ → ℕ → ℕ → ℕ
  target_count r (RefTarget ref) m k = truth (target_writes r (RefTarget ref) m k)
  target_count r (ConcatTarget line ts) m k = targets_count r ts m k

  pub targets_count : Readable → TargetsOf ℕ → ℕ → ℕ → ℕ
  targets_count r NoTargets m k = 0
  targets_count r (MoreTargets t ts) m k = target_count r t m k + targets_count r ts m k

-- ---- statements, on any path; the arms of a `case` in text order and its `default` behind them

abbrev mutual
  pub stmt_names : Readable → StmtOf ℕ → List Naming
  stmt_names r (BeginStmt ss) = stmts_names r ss
  stmt_names r (IfStmt c b other) = body_names r b ++ else_names r other
  stmt_names r (CaseStmt subject arms) = arms_names r arms ++ default_names r arms
  stmt_names r (AssignStmt target op e) = target_names r target

  pub stmts_names : Readable → StmtsOf ℕ → List Naming
  stmts_names r NoStmts = []
  stmts_names r (MoreStmts s ss) = stmt_names r s ++ stmts_names r ss

  pub body_names : Readable → BodyOf ℕ → List Naming
  body_names r (StmtBody s) = stmt_names r s
  body_names r EmptyBody = []

  pub else_names : Readable → ElseOf ℕ → List Naming
  else_names r NoElse = []
  else_names r (Else b) = body_names r b

  -- the arms with labels
  pub arms_names : Readable → ArmsOf ℕ → List Naming
  arms_names r NoArms = []
  arms_names r (MoreArms a rest) = arm_names r a ++ arms_names r rest

  pub arm_names : Readable → ArmOf ℕ → List Naming
  arm_names r (LabelsArm labels b) = body_names r b
  arm_names r (DefaultArm line colon b) = []

  pub default_names : Readable → ArmsOf ℕ → List Naming
  default_names r NoArms = []
  default_names r (MoreArms (LabelsArm labels b) rest) = default_names r rest
  default_names r (MoreArms (DefaultArm line colon b) rest) = body_names r b

abbrev pub always_names : Readable → AlwaysOf ℕ → List Naming
always_names r a = body_names r a.body
