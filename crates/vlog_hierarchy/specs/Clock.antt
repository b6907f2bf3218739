-- E13: names joined to the clock (IEEE 1364-2005, 9.7.2 and 12.3.6; this project's profile: one clock, an input of the top).
use Rattle.std.specs.Prelude.{ℕ, zero, suc, ◌+◌, ◌==◌, not, Bool, true, false, if◌then◌else◌, List, [], ◌∷◌, ◌++◌, Option, None, Some}
use Rattle.std.specs.Prelude.{is_some, slice_get, slice_set}
use Rattle.std.specs.List.{flat_map, list_any}
use Rattle.vlog_size.specs.vidi_bits.Findings.{told_if}
use Rattle.vlog_tree.specs.Tree.{IdentOf, ExprOf, UnaryExpr, BinaryExpr, ChoiceExpr, PrimOf, NumberPrim, RefPrim, ParenPrim, ConcatPrim}
use Rattle.vlog_tree.specs.Tree.{RepeatPrim}
use Rattle.vlog_tree.specs.Tree.{RefOf, RefWith, IndexOf, NoIndex, Index, LastOf, NoLast, Last, SelOf, IndexSel, PartSel, IndexedSel}
use Rattle.vlog_tree.specs.Tree.{ExprsOf}
use Rattle.vlog_tree.specs.Tree.{NoExprs, MoreExprs, TargetOf, RefTarget, ConcatTarget, TargetsOf, NoTargets, MoreTargets, StmtOf}
use Rattle.vlog_tree.specs.Tree.{BeginStmt}
use Rattle.vlog_tree.specs.Tree.{IfStmt, CaseStmt, AssignStmt, BodyOf, StmtBody, EmptyBody, ElseOf, NoElse, Else, StmtsOf, NoStmts}
use Rattle.vlog_tree.specs.Tree.{MoreStmts}
use Rattle.vlog_tree.specs.Tree.{ArmOf, LabelsArm, DefaultArm, ArmsOf, NoArms, MoreArms, NamedValueOf, AssignOf, EventOf, PosedgeEvent}
use Rattle.vlog_tree.specs.Tree.{ImplicitEvent, ConnOf, InstanceOf, ItemOf, WiresItem, DrivenWiresItem, RegsItem, LocalparamsItem}
use Rattle.vlog_tree.specs.Tree.{AssignItem, AlwaysItem, InstanceItem, ModuleOf}
use Rattle.vlog_hierarchy.specs.declared.error.HierarchyError.{HierarchyError}
use Rattle.vlog_hierarchy.specs.declared.error.HierarchyError.TheVariants as error
use Rattle.vlog_hierarchy.specs.declared.scopes.Scope.{Scope}
use Rattle.vlog_hierarchy.specs.Outlines.{Child, Outline, children_at}
use Rattle.vlog_hierarchy.specs.Reach.{is_marked}
use Rattle.vlog_size.specs.Table.{Named, value_of, added}
use Rattle.vlog_hierarchy.specs.declared.nodes.TheConstants.{MOST_LEVELS}

-- ---- joined names: each name of an instance that is joined, by plain names through ports, to a 1-bit input port of the top,
-- with that port's place among these ports, counted from 0

-- in the top the ports are joined to themselves
abbrev pub ports_from : ℕ → List (Named ℕ) → List (List ℕ) → List (Named ℕ)
ports_from k js [] = js
ports_from k js (name ∷ names) = ports_from (k + 1) (added js name k) names

-- the name that a reference without brackets is
abbrev pub ref_name : RefOf ℕ → Option (List ℕ)
ref_name (RefWith id NoIndex NoLast) = Some id.name
ref_name (RefWith id NoIndex (Last s)) = None
ref_name (RefWith id (Index e) last) = None

abbrev pub prim_name : PrimOf ℕ → Option (List ℕ)
prim_name (RefPrim r) = ref_name r
prim_name (NumberPrim n) = None
prim_name (ParenPrim line e) = None
prim_name (ConcatPrim line es) = None
prim_name (RepeatPrim line e es) = None

-- the name that an expression is
abbrev pub plain_name : ExprOf ℕ → Option (List ℕ)
plain_name (UnaryExpr None p) = prim_name p
plain_name (UnaryExpr (Some sign) p) = None
plain_name (BinaryExpr a op b) = None
plain_name (ChoiceExpr c a b) = None

abbrev pub port_of_name : List (Named ℕ) → Option (List ℕ) → Option ℕ
port_of_name js None = None
port_of_name js (Some name) = value_of js name

-- the port to which what is connected is joined
abbrev pub port_of_value : List (Named ℕ) → Option (ExprOf ℕ) → Option ℕ
port_of_value js None = None
port_of_value js (Some e) = port_of_name js (plain_name e)

abbrev pub joined_as : List (Named ℕ) → List ℕ → Option ℕ → List (Named ℕ)
joined_as inner name None = inner
joined_as inner name (Some port) = added inner name port

-- a connection joins the child's port, where a plain joined name is connected
abbrev pub conn_joined : List (Named ℕ) → List (Named ℕ) → ConnOf ℕ → List (Named ℕ)
conn_joined js inner c = joined_as inner c.id.name (port_of_value js c.value)

abbrev pub conns_joined : List (Named ℕ) → List (Named ℕ) → List (ConnOf ℕ) → List (Named ℕ)
conns_joined js inner [] = inner
conns_joined js inner (c ∷ cs) = conns_joined js (conn_joined js inner c) cs

-- the joined names of a child
unfoldable pub child_joined : List (Named ℕ) → InstanceOf ℕ → List (Named ℕ)
child_joined js i = conns_joined js [] i.ports

-- the instances in the order of `nodes`, with their joined names, where these are joined in the instance of module k
unfoldable pub scopes : ℕ → List Outline → List (Named ℕ) → ℕ → List Scope
scopes zero os js k = []
scopes (suc n) os js k = record { place = k; joined = js }
    ∷ flat_map (λ (c : Child). scopes n os (child_joined js c.instance) c.place) (children_at os k)

abbrev pub child_scopes : ℕ → List Outline → List (Named ℕ) → Child → List Scope
child_scopes n os js c = scopes n os (child_joined js c.instance) c.place

-- the joined names of the instance at place k of a list
abbrev pub joined_in : Option Scope → List (Named ℕ)
joined_in None = []
joined_in (Some s) = s.joined

abbrev pub joined_at : List Scope → ℕ → List (Named ℕ)
joined_at ss k = joined_in (slice_get ss k)

-- the instances of a top with these 1-bit input ports
unfoldable pub scopes_of : List Outline → List (List ℕ) → Option ℕ → List Scope
scopes_of os inputs None = []
scopes_of os inputs (Some top) = scopes MOST_LEVELS os (ports_from 0 [] inputs) top

-- ---- clocks

-- the items of the module at place k
abbrev pub items_in : Option (ModuleOf ℕ) → List (ItemOf ℕ)
items_in None = []
items_in (Some m) = m.items

abbrev pub items_at : List (ModuleOf ℕ) → ℕ → List (ItemOf ℕ)
items_at modules k = items_in (slice_get modules k)

-- the port to which a clocked block's name is joined
abbrev pub event_ports : List (Named ℕ) → EventOf ℕ → List (Option ℕ)
event_ports js (PosedgeEvent id) = value_of js id.name ∷ []
event_ports js (ImplicitEvent parens) = []

abbrev pub item_ports : List (Named ℕ) → ItemOf ℕ → List (Option ℕ)
item_ports js (WiresItem range names) = []
item_ports js (DrivenWiresItem range wires) = []
item_ports js (RegsItem range regs) = []
item_ports js (LocalparamsItem range parameters) = []
item_ports js (AssignItem assigns) = []
item_ports js (AlwaysItem a) = event_ports js a.event
item_ports js (InstanceItem i) = []

unfoldable pub scope_ports : List (ModuleOf ℕ) → Scope → List (Option ℕ)
scope_ports modules s = flat_map (item_ports s.joined) (items_at modules s.place)

-- the ports to which the names of all clocked blocks are joined
unfoldable pub clock_ports : List (ModuleOf ℕ) → List Scope → List (Option ℕ)
clock_ports modules ss = flat_map (scope_ports modules) ss

-- that of the first clocked block
abbrev pub first_port : List (Option ℕ) → Option ℕ
first_port [] = None
first_port (p ∷ ps) = p

abbrev pub same_port : Option ℕ → Option ℕ → Bool
same_port None b = false
same_port (Some a) None = false
same_port (Some a) (Some b) = a == b

-- the marks when one more port is marked
abbrev pub marked : List Bool → Option ℕ → List Bool
marked marks None = marks
marked marks (Some port) = slice_set marks port true

abbrev pub marks_from : ℕ → ℕ → List (Option ℕ) → List Bool
marks_from k zero ports = []
marks_from k (suc n) ports = list_any (same_port (Some k)) ports ∷ marks_from (k + 1) n ports

-- for each of the top's n 1-bit input ports whether it is a clock: the name of some clocked block is joined to it
unfoldable pub clock_marks : ℕ → List (Option ℕ) → List Bool
clock_marks n ports = marks_from 0 n ports

-- whether a name that is joined to this port is joined to a clock
abbrev pub is_clock : List Bool → Option ℕ → Bool
is_clock marks None = false
is_clock marks (Some port) = is_marked marks port

-- ---- reads of the clock, each at the line of the name

unfoldable pub name_faults : List Bool → List (Named ℕ) → IdentOf ℕ → List HierarchyError
name_faults marks js id = told_if (is_clock marks (value_of js id.name)) (error.Clock id.line)

abbrev mutual
  pub expr_faults : List Bool → List (Named ℕ) → ExprOf ℕ → List HierarchyError
  expr_faults marks js (UnaryExpr sign p) = prim_faults marks js p
  expr_faults marks js (BinaryExpr a op b) = expr_faults marks js a ++ expr_faults marks js b
  expr_faults marks js (ChoiceExpr c a b) = expr_faults marks js c ++ (expr_faults marks js a ++ expr_faults marks js b)

  pub prim_faults : List Bool → List (Named ℕ) → PrimOf ℕ → List HierarchyError
  prim_faults marks js (NumberPrim n) = []
  prim_faults marks js (RefPrim r) = ref_faults marks js r
  prim_faults marks js (ParenPrim line e) = expr_faults marks js e
  prim_faults marks js (ConcatPrim line es) = exprs_faults marks js es
  prim_faults marks js (RepeatPrim line e es) = expr_faults marks js e ++ exprs_faults marks js es

  pub ref_faults : List Bool → List (Named ℕ) → RefOf ℕ → List HierarchyError
  ref_faults marks js (RefWith id index last) = name_faults marks js id ++ (index_faults marks js index ++ last_faults marks js last)

  pub index_faults : List Bool → List (Named ℕ) → IndexOf ℕ → List HierarchyError
  index_faults marks js NoIndex = []
  index_faults marks js (Index e) = expr_faults marks js e

  pub last_faults : List Bool → List (Named ℕ) → LastOf ℕ → List HierarchyError
  last_faults marks js NoLast = []
  last_faults marks js (Last s) = sel_faults marks js s

  pub sel_faults : List Bool → List (Named ℕ) → SelOf ℕ → List HierarchyError
  sel_faults marks js (IndexSel e) = expr_faults marks js e
  sel_faults marks js (PartSel a b) = expr_faults marks js a ++ expr_faults marks js b
  sel_faults marks js (IndexedSel a b) = expr_faults marks js a ++ expr_faults marks js b

  pub exprs_faults : List Bool → List (Named ℕ) → ExprsOf ℕ → List HierarchyError
  exprs_faults marks js NoExprs = []
  exprs_faults marks js (MoreExprs e es) = expr_faults marks js e ++ exprs_faults marks js es

-- a target is written, and only its brackets are read
abbrev pub written_faults : List Bool → List (Named ℕ) → RefOf ℕ → List HierarchyError
written_faults marks js (RefWith id index last) = index_faults marks js index ++ last_faults marks js last

abbrev mutual
  pub target_faults : List Bool → List (Named ℕ) → TargetOf ℕ → List HierarchyError
  target_faults marks js (RefTarget r) = written_faults marks js r
  target_faults marks js (ConcatTarget line ts) = targets_faults marks js ts

  pub targets_faults : List Bool → List (Named ℕ) → TargetsOf ℕ → List HierarchyError
  targets_faults marks js NoTargets = []
  targets_faults marks js (MoreTargets t ts) = target_faults marks js t ++ targets_faults marks js ts

abbrev mutual
  pub stmt_faults : List Bool → List (Named ℕ) → StmtOf ℕ → List HierarchyError
  stmt_faults marks js (BeginStmt ss) = stmts_faults marks js ss
  stmt_faults marks js (IfStmt e b other) = expr_faults marks js e ++ (body_faults marks js b ++ else_faults marks js other)
  stmt_faults marks js (CaseStmt e arms) = expr_faults marks js e ++ arms_faults marks js arms
  stmt_faults marks js (AssignStmt t op e) = target_faults marks js t ++ expr_faults marks js e

  pub stmts_faults : List Bool → List (Named ℕ) → StmtsOf ℕ → List HierarchyError
  stmts_faults marks js NoStmts = []
  stmts_faults marks js (MoreStmts s ss) = stmt_faults marks js s ++ stmts_faults marks js ss

  pub body_faults : List Bool → List (Named ℕ) → BodyOf ℕ → List HierarchyError
  body_faults marks js (StmtBody s) = stmt_faults marks js s
  body_faults marks js EmptyBody = []

  pub else_faults : List Bool → List (Named ℕ) → ElseOf ℕ → List HierarchyError
  else_faults marks js NoElse = []
  else_faults marks js (Else b) = body_faults marks js b

  pub arm_faults : List Bool → List (Named ℕ) → ArmOf ℕ → List HierarchyError
  arm_faults marks js (LabelsArm labels b) = flat_map (expr_faults marks js) labels ++ body_faults marks js b
  arm_faults marks js (DefaultArm line colon b) = body_faults marks js b

  pub arms_faults : List Bool → List (Named ℕ) → ArmsOf ℕ → List HierarchyError
  arms_faults marks js NoArms = []
  arms_faults marks js (MoreArms a more) = arm_faults marks js a ++ arms_faults marks js more

-- ---- findings

-- the name after `posedge` isn't joined, or to another port than that of the first clocked block. Where that one isn't joined
-- it is the first finding, and the others are found too
abbrev pub event_faults : Option ℕ → List (Named ℕ) → ℕ → EventOf ℕ → List HierarchyError
event_faults wanted js line (PosedgeEvent id) = told_if (not (same_port wanted (value_of js id.name))) (error.Clock line)
event_faults wanted js line (ImplicitEvent parens) = []

-- a plain connection reads nothing
abbrev pub value_faults : List Bool → List (Named ℕ) → Option (ExprOf ℕ) → List HierarchyError
value_faults marks js None = []
value_faults marks js (Some e) = if is_some (plain_name e) then [] else expr_faults marks js e

abbrev pub conn_faults : List Bool → List (Named ℕ) → ConnOf ℕ → List HierarchyError
conn_faults marks js c = value_faults marks js c.value

abbrev pub wire_faults : List Bool → List (Named ℕ) → NamedValueOf ℕ → List HierarchyError
wire_faults marks js w = expr_faults marks js w.value

abbrev pub assign_faults : List Bool → List (Named ℕ) → AssignOf ℕ → List HierarchyError
assign_faults marks js a = target_faults marks js a.target ++ expr_faults marks js a.value

-- an item of an instance, in text order. Ranges, parameters and initialisers read no nets (E5)
abbrev pub item_faults : Option ℕ → List Bool → List (Named ℕ) → ItemOf ℕ → List HierarchyError
item_faults wanted marks js (WiresItem range names) = []
item_faults wanted marks js (DrivenWiresItem range wires) = flat_map (wire_faults marks js) wires
item_faults wanted marks js (RegsItem range regs) = []
item_faults wanted marks js (LocalparamsItem range parameters) = []
item_faults wanted marks js (AssignItem assigns) = flat_map (assign_faults marks js) assigns
item_faults wanted marks js (AlwaysItem a) = event_faults wanted js a.line a.event ++ body_faults marks js a.body
item_faults wanted marks js (InstanceItem i) = flat_map (conn_faults marks js) i.ports

-- an instance
unfoldable pub scope_faults : List (ModuleOf ℕ) → Option ℕ → List Bool → Scope → List HierarchyError
scope_faults modules wanted marks s = flat_map (item_faults wanted marks s.joined) (items_at modules s.place)

-- all findings where these are the ports of the clocked blocks: the instances in preorder, and within each in text order
abbrev pub faults_with : List (ModuleOf ℕ) → ℕ → List Scope → List (Option ℕ) → List HierarchyError
faults_with modules n ss ports = flat_map (scope_faults modules (first_port ports) (clock_marks n ports)) ss

-- all findings, where the top has n 1-bit input ports
unfoldable pub clock_faults : List (ModuleOf ℕ) → ℕ → List Scope → List HierarchyError
clock_faults modules n ss = faults_with modules n ss (clock_ports modules ss)
