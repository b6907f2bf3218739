-- E7: the lines at which a name or an assignment is of a wrong kind, in text order, the whole before its parts (this
-- project's profile). E3 and E4 are tried before: each name is declared, and once.
use Rattle.std.specs.Prelude.{ℕ, Bool, true, false, ◌&&◌, ◌||◌, not, List, [], ◌++◌, Option, None, Some, is_some, is_none}
use Rattle.std.specs.Prelude.{if◌then◌else◌}
use Rattle.std.specs.List.{flat_map}
use Rattle.vlog_names.specs.vidi_bits.Findings.{told_if}
use Rattle.vlog_tree.specs.Tree.{ExprOf, RefOf, RefWith, RangeOf, ParameterHeadOf, ParameterOf, PortHeadOf, PortOf}
use Rattle.vlog_tree.specs.Tree.{NamedValueOf, RegTailOf, InitTail, MemoryTail, Reg1Of, TargetOf, RefTarget, ConcatTarget, TargetsOf}
use Rattle.vlog_tree.specs.Tree.{NoTargets, MoreTargets, StmtOf, BeginStmt, IfStmt, CaseStmt, AssignStmt, BodyOf, StmtBody, EmptyBody}
use Rattle.vlog_tree.specs.Tree.{ElseOf, NoElse, Else, ArmOf, LabelsArm, DefaultArm, ArmsOf, NoArms, MoreArms, StmtsOf, NoStmts}
use Rattle.vlog_tree.specs.Tree.{MoreStmts, AssignOf, EventOf, PosedgeEvent, ImplicitEvent, AlwaysOf, ConnOf, InstanceOf, ItemOf}
use Rattle.vlog_tree.specs.Tree.{WiresItem, DrivenWiresItem, RegsItem, LocalparamsItem, AssignItem, AlwaysItem, InstanceItem, ModuleOf}
use Rattle.vlog_tree.specs.Tree.{FileOf}
use Rattle.vlog_tree.specs.Lines.{target_line}
use Rattle.vlog_names.specs.Table.{Named, value_of}
use Rattle.vlog_names.specs.Kinds.{wrong_kinds, wrong_kind, at_names_of_ref}
use Rattle.vlog_names.specs.Entries.{Names, class_in, declared, modules_of}
use Rattle.vlog_names.specs.Ports.{is_output}
use Rattle.vlog_names.specs.Roles.{is_stored, is_memory, is_output_reg, is_wrong_sign}
use Rattle.vlog_names.specs.Selects.{drives_wire, is_wire_target}

-- ---- expressions: a scalar or parameter with an index, a net with two brackets, a memory without index, an instance name
unfoldable pub in_expr : Names → ExprOf ℕ → List ℕ
in_expr names e = wrong_kinds (class_in names) e

unfoldable pub in_ref : Names → RefOf ℕ → List ℕ
in_ref names r = at_names_of_ref (wrong_kind (class_in names)) r

abbrev pub in_value : Names → Option (ExprOf ℕ) → List ℕ
in_value names None = []
in_value names (Some e) = in_expr names e

abbrev pub in_bounds : Names → RangeOf ℕ → List ℕ
in_bounds names r = in_expr names r.first ++ in_expr names r.second

abbrev pub in_range : Names → Option (RangeOf ℕ) → List ℕ
in_range names None = []
in_range names (Some r) = in_bounds names r

-- ---- `assign`: a target that isn't a wire or a wire output with constant selects
abbrev pub not_driven : Names → RefOf ℕ → List ℕ
not_driven names (RefWith id index last) = told_if (not (drives_wire names (RefWith id index last))) id.line

abbrev mutual
  pub in_driven : Names → TargetOf ℕ → List ℕ
  in_driven names (RefTarget r) = not_driven names r ++ in_ref names r
  in_driven names (ConcatTarget line ts) = in_all_driven names ts

  pub in_all_driven : Names → TargetsOf ℕ → List ℕ
  in_all_driven names NoTargets = []
  in_all_driven names (MoreTargets t ts) = in_driven names t ++ in_all_driven names ts

abbrev pub in_assign : Names → AssignOf ℕ → List ℕ
in_assign names a = in_driven names a.target ++ in_expr names a.value

-- ---- always blocks: a target that isn't a reg, a memory that is written in `always @*`
abbrev pub not_stored : Bool → Names → RefOf ℕ → List ℕ
not_stored clocked names (RefWith id index last) = told_if (not (is_stored clocked (value_of names id.name))) id.line

abbrev mutual
  pub in_stored : Bool → Names → TargetOf ℕ → List ℕ
  in_stored clocked names (RefTarget r) = not_stored clocked names r ++ in_ref names r
  in_stored clocked names (ConcatTarget line ts) = in_all_stored clocked names ts

  pub in_all_stored : Bool → Names → TargetsOf ℕ → List ℕ
  in_all_stored clocked names NoTargets = []
  in_all_stored clocked names (MoreTargets t ts) = in_stored clocked names t ++ in_all_stored clocked names ts

-- a `default` behind another one
abbrev pub second_default : Bool → ArmOf ℕ → List ℕ
second_default seen (LabelsArm labels b) = []
second_default seen (DefaultArm line colon b) = told_if seen line

abbrev pub is_default : ArmOf ℕ → Bool
is_default (LabelsArm labels b) = false
is_default (DefaultArm line colon b) = true

-- an assignment whose sign is wrong comes before what is found in it
abbrev mutual
  pub in_stmt : Bool → Names → StmtOf ℕ → List ℕ
  in_stmt clocked names (BeginStmt ss) = in_stmts clocked names ss
  in_stmt clocked names (IfStmt condition b other) =
      in_expr names condition ++ (in_body clocked names b ++ in_else clocked names other)
  in_stmt clocked names (CaseStmt e arms) = in_expr names e ++ in_arms clocked names false arms
  in_stmt clocked names (AssignStmt target op value) =
      told_if (is_wrong_sign clocked op) (target_line target) ++ (in_stored clocked names target ++ in_expr names value)

  pub in_body : Bool → Names → BodyOf ℕ → List ℕ
  in_body clocked names (StmtBody s) = in_stmt clocked names s
  in_body clocked names EmptyBody = []

  pub in_else : Bool → Names → ElseOf ℕ → List ℕ
  in_else clocked names NoElse = []
  in_else clocked names (Else b) = in_body clocked names b

  pub in_arm : Bool → Names → ArmOf ℕ → List ℕ
  in_arm clocked names (LabelsArm labels b) = flat_map (in_expr names) labels ++ in_body clocked names b
  in_arm clocked names (DefaultArm line colon b) = in_body clocked names b

  pub in_arms : Bool → Names → Bool → ArmsOf ℕ → List ℕ
  in_arms clocked names seen NoArms = []
  in_arms clocked names seen (MoreArms a more) =
      second_default seen a ++ (in_arm clocked names a ++ in_arms clocked names (seen || is_default a) more)

  pub in_stmts : Bool → Names → StmtsOf ℕ → List ℕ
  in_stmts clocked names NoStmts = []
  in_stmts clocked names (MoreStmts s ss) = in_stmt clocked names s ++ in_stmts clocked names ss

-- a memory named in a sensitivity
abbrev pub in_event : Names → EventOf ℕ → List ℕ
in_event names (PosedgeEvent id) = told_if (is_memory (value_of names id.name)) id.line
in_event names (ImplicitEvent parens) = []

abbrev pub is_clocked : EventOf ℕ → Bool
is_clocked (PosedgeEvent id) = true
is_clocked (ImplicitEvent parens) = false

abbrev pub in_always : Names → AlwaysOf ℕ → List ℕ
in_always names a = in_event names a.event ++ in_body (is_clocked a.event) names a.body

-- ---- connections: an empty one of a parameter
abbrev pub in_parameter_conn : Names → ConnOf ℕ → List ℕ
in_parameter_conn names c = told_if (is_none c.value) c.line ++ in_value names c.value

-- one of a child's output that isn't empty, and has no form of a target or drives something else than wires
abbrev pub in_output : Names → ℕ → Option (ExprOf ℕ) → List ℕ
in_output names line None = []
in_output names line (Some e) = told_if (not (is_wire_target names e)) line ++ in_expr names e

abbrev pub in_port_conn : Names → Names → ConnOf ℕ → List ℕ
in_port_conn child names c =
    if is_output (value_of child c.id.name) then in_output names c.line c.value else in_value names c.value

abbrev pub in_connected : Names → ConnOf ℕ → List ℕ
in_connected names c = in_value names c.value

-- `child` is what the module of the instance declares
abbrev pub in_port_conns : Option Names → Names → List (ConnOf ℕ) → List ℕ
in_port_conns None names conns = flat_map (in_connected names) conns
in_port_conns (Some child) names conns = flat_map (in_port_conn child names) conns

abbrev pub in_instance : List (Named Names) → Names → InstanceOf ℕ → List ℕ
in_instance all names i =
    flat_map (in_parameter_conn names) i.parameters ++ in_port_conns (value_of all i.module_id.name) names i.ports

-- ---- headers and items
abbrev pub in_parameter_head : Names → Option (ParameterHeadOf ℕ) → List ℕ
in_parameter_head names None = []
in_parameter_head names (Some h) = in_range names h.range

abbrev pub in_parameter : Names → ParameterOf ℕ → List ℕ
in_parameter names p = in_parameter_head names p.head ++ in_expr names p.value

abbrev pub in_port_head : Names → Option (PortHeadOf ℕ) → List ℕ
in_port_head names None = []
in_port_head names (Some h) = in_range names h.range

-- an initialiser on a port that isn't `output reg`
abbrev pub wrong_init : Names → PortOf ℕ → List ℕ
wrong_init names p = told_if (is_some p.init && not (is_output_reg (value_of names p.id.name))) p.id.line

abbrev pub in_port : Names → PortOf ℕ → List ℕ
in_port names p = in_port_head names p.head ++ (wrong_init names p ++ in_value names p.init)

abbrev pub in_named : Names → NamedValueOf ℕ → List ℕ
in_named names w = in_expr names w.value

abbrev pub in_tail : Names → Option (RegTailOf ℕ) → List ℕ
in_tail names None = []
in_tail names (Some (InitTail e)) = in_expr names e
in_tail names (Some (MemoryTail r)) = in_bounds names r

abbrev pub in_reg : Names → Reg1Of ℕ → List ℕ
in_reg names r = in_tail names r.tail

-- a wire's own driver goes to that wire
abbrev pub in_item : List (Named Names) → Names → ItemOf ℕ → List ℕ
in_item all names (WiresItem range ids) = in_range names range
in_item all names (DrivenWiresItem range wires) = in_range names range ++ flat_map (in_named names) wires
in_item all names (RegsItem range regs) = in_range names range ++ flat_map (in_reg names) regs
in_item all names (LocalparamsItem range params) = in_range names range ++ flat_map (in_named names) params
in_item all names (AssignItem assigns) = flat_map (in_assign names) assigns
in_item all names (AlwaysItem a) = in_always names a
in_item all names (InstanceItem i) = in_instance all names i

-- in one module; `all` are the modules of the file, `names` what this one declares
unfoldable pub in_module_with : List (Named Names) → Names → ModuleOf ℕ → List ℕ
in_module_with all names m =
    flat_map (in_parameter names) m.parameters ++ (flat_map (in_port names) m.ports ++ flat_map (in_item all names) m.items)

unfoldable pub in_module : List (Named Names) → ModuleOf ℕ → List ℕ
in_module all m = in_module_with all (declared m) m

-- in a file
unfoldable pub wrong_uses : FileOf ℕ → List ℕ
wrong_uses file = flat_map (in_module (modules_of file)) file.modules
