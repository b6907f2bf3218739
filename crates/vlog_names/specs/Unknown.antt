-- E4: the names that aren't declared, where they are used, in text order, the top first (this project's profile).
use Rattle.std.specs.Prelude.{ℕ, Bool, true, false, not, List, [], ◌∷◌, ◌++◌, Option, None, Some, is_none}
use Rattle.std.specs.List.{flat_map}
use Rattle.vlog_size.specs.vidi_bits.Findings.{told_if}
use Rattle.vlog_tree.specs.Tree.{IdentOf, ExprOf, RefOf, RefWith, RangeOf, ParameterHeadOf, ParameterOf, PortHeadOf, PortOf}
use Rattle.vlog_tree.specs.Tree.{NamedValueOf, RegTailOf, InitTail, MemoryTail, Reg1Of, TargetOf, RefTarget, ConcatTarget, TargetsOf}
use Rattle.vlog_tree.specs.Tree.{NoTargets, MoreTargets, StmtOf, BeginStmt, IfStmt, CaseStmt, AssignStmt, BodyOf, StmtBody, EmptyBody}
use Rattle.vlog_tree.specs.Tree.{ElseOf, NoElse, Else, ArmOf, LabelsArm, DefaultArm, ArmsOf, NoArms, MoreArms, StmtsOf, NoStmts}
use Rattle.vlog_tree.specs.Tree.{MoreStmts, AssignOf, EventOf, PosedgeEvent, ImplicitEvent, AlwaysOf, ConnOf, InstanceOf, ItemOf}
use Rattle.vlog_tree.specs.Tree.{WiresItem, DrivenWiresItem, RegsItem, LocalparamsItem, AssignItem, AlwaysItem, InstanceItem, ModuleOf}
use Rattle.vlog_tree.specs.Tree.{FileOf}
use Rattle.vlog_size.specs.Table.{Named, value_of}
use Rattle.vlog_size.specs.Kinds.{at_names, at_names_of_ref}
use Rattle.vlog_names.specs.Entries.{Names, declared, modules_of}
use Rattle.vlog_names.specs.declared.declaration.Declaration.{Declaration}
use Rattle.vlog_names.specs.declared.declaration.Declaration.TheVariants as d
use Rattle.vlog_names.specs.declared.error.NameError.{NameError}
use Rattle.vlog_names.specs.declared.error.NameError.TheVariants as e

-- a used name
abbrev pub unknown_ident : Names → IdentOf ℕ → List NameError
unknown_ident names id = told_if (is_none (value_of names id.name)) (e.Unknown id.name)

unfoldable pub unknown_at : Names → RefOf ℕ → List NameError
unknown_at names (RefWith id index last) = unknown_ident names id

-- ---- expressions
abbrev pub unknown_expr : Names → ExprOf ℕ → List NameError
unknown_expr names e = at_names (unknown_at names) e

abbrev pub unknown_ref : Names → RefOf ℕ → List NameError
unknown_ref names r = at_names_of_ref (unknown_at names) r

abbrev pub unknown_value : Names → Option (ExprOf ℕ) → List NameError
unknown_value names None = []
unknown_value names (Some e) = unknown_expr names e

abbrev pub unknown_bounds : Names → RangeOf ℕ → List NameError
unknown_bounds names r = unknown_expr names r.first ++ unknown_expr names r.second

abbrev pub unknown_range : Names → Option (RangeOf ℕ) → List NameError
unknown_range names None = []
unknown_range names (Some r) = unknown_bounds names r

-- ---- targets and statements
abbrev mutual
  pub unknown_target : Names → TargetOf ℕ → List NameError
  unknown_target names (RefTarget r) = unknown_ref names r
  unknown_target names (ConcatTarget line ts) = unknown_targets names ts

  pub unknown_targets : Names → TargetsOf ℕ → List NameError
  unknown_targets names NoTargets = []
  unknown_targets names (MoreTargets t ts) = unknown_target names t ++ unknown_targets names ts

abbrev mutual
  pub unknown_stmt : Names → StmtOf ℕ → List NameError
  unknown_stmt names (BeginStmt ss) = unknown_stmts names ss
  unknown_stmt names (IfStmt condition b other) = unknown_expr names condition ++ (unknown_body names b ++ unknown_else names other)
  unknown_stmt names (CaseStmt e arms) = unknown_expr names e ++ unknown_arms names arms
  unknown_stmt names (AssignStmt target op value) = unknown_target names target ++ unknown_expr names value

  pub unknown_body : Names → BodyOf ℕ → List NameError
  unknown_body names (StmtBody s) = unknown_stmt names s
  unknown_body names EmptyBody = []

  pub unknown_else : Names → ElseOf ℕ → List NameError
  unknown_else names NoElse = []
  unknown_else names (Else b) = unknown_body names b

  pub unknown_arm : Names → ArmOf ℕ → List NameError
  unknown_arm names (LabelsArm labels b) = flat_map (unknown_expr names) labels ++ unknown_body names b
  unknown_arm names (DefaultArm line colon b) = unknown_body names b

  pub unknown_arms : Names → ArmsOf ℕ → List NameError
  unknown_arms names NoArms = []
  unknown_arms names (MoreArms a more) = unknown_arm names a ++ unknown_arms names more

  pub unknown_stmts : Names → StmtsOf ℕ → List NameError
  unknown_stmts names NoStmts = []
  unknown_stmts names (MoreStmts s ss) = unknown_stmt names s ++ unknown_stmts names ss

-- ---- connections
abbrev pub is_parameter : Option Declaration → Bool
is_parameter (Some d.Parameter) = true
is_parameter other = false

abbrev pub is_port : Option Declaration → Bool
is_port (Some (d.Port direction shape)) = true
is_port other = false

abbrev pub unknown_connected : Names → ConnOf ℕ → List NameError
unknown_connected names c = unknown_value names c.value

-- a parameter in a connection is one of the header
abbrev pub unknown_parameter_conn : Names → Names → ConnOf ℕ → List NameError
unknown_parameter_conn child names c =
    told_if (not (is_parameter (value_of child c.id.name))) (e.Unknown c.id.name) ++ unknown_connected names c

abbrev pub unknown_port_conn : Names → Names → ConnOf ℕ → List NameError
unknown_port_conn child names c =
    told_if (not (is_port (value_of child c.id.name))) (e.Unknown c.id.name) ++ unknown_connected names c

-- where the module isn't declared, only the expressions are looked at
unfoldable pub unknown_instance : Option Names → Names → InstanceOf ℕ → List NameError
unknown_instance None names i =
    e.Unknown i.module_id.name ∷ (flat_map (unknown_connected names) i.parameters ++ flat_map (unknown_connected names) i.ports)
unknown_instance (Some child) names i =
    flat_map (unknown_parameter_conn child names) i.parameters ++ flat_map (unknown_port_conn child names) i.ports

-- ---- headers and items
abbrev pub unknown_parameter_head : Names → Option (ParameterHeadOf ℕ) → List NameError
unknown_parameter_head names None = []
unknown_parameter_head names (Some h) = unknown_range names h.range

abbrev pub unknown_parameter : Names → ParameterOf ℕ → List NameError
unknown_parameter names p = unknown_parameter_head names p.head ++ unknown_expr names p.value

abbrev pub unknown_port_head : Names → Option (PortHeadOf ℕ) → List NameError
unknown_port_head names None = []
unknown_port_head names (Some h) = unknown_range names h.range

abbrev pub unknown_port : Names → PortOf ℕ → List NameError
unknown_port names p = unknown_port_head names p.head ++ unknown_value names p.init

abbrev pub unknown_named : Names → NamedValueOf ℕ → List NameError
unknown_named names w = unknown_expr names w.value

abbrev pub unknown_tail : Names → Option (RegTailOf ℕ) → List NameError
unknown_tail names None = []
unknown_tail names (Some (InitTail e)) = unknown_expr names e
unknown_tail names (Some (MemoryTail r)) = unknown_bounds names r

abbrev pub unknown_reg : Names → Reg1Of ℕ → List NameError
unknown_reg names r = unknown_tail names r.tail

abbrev pub unknown_assign : Names → AssignOf ℕ → List NameError
unknown_assign names a = unknown_target names a.target ++ unknown_expr names a.value

abbrev pub unknown_event : Names → EventOf ℕ → List NameError
unknown_event names (PosedgeEvent id) = unknown_ident names id
unknown_event names (ImplicitEvent parens) = []

abbrev pub unknown_always : Names → AlwaysOf ℕ → List NameError
unknown_always names a = unknown_event names a.event ++ unknown_body names a.body

-- `all` are the modules of the file, `names` those of the item's module
abbrev pub unknown_item : List (Named Names) → Names → ItemOf ℕ → List NameError
unknown_item all names (WiresItem range ids) = unknown_range names range
unknown_item all names (DrivenWiresItem range wires) = unknown_range names range ++ flat_map (unknown_named names) wires
unknown_item all names (RegsItem range regs) = unknown_range names range ++ flat_map (unknown_reg names) regs
unknown_item all names (LocalparamsItem range params) = unknown_range names range ++ flat_map (unknown_named names) params
unknown_item all names (AssignItem assigns) = flat_map (unknown_assign names) assigns
unknown_item all names (AlwaysItem a) = unknown_always names a
unknown_item all names (InstanceItem i) = unknown_instance (value_of all i.module_id.name) names i

-- in one module, whose names may be declared anywhere in it
unfoldable pub unknown_in : List (Named Names) → Names → ModuleOf ℕ → List NameError
unknown_in all names m = flat_map (unknown_parameter names) m.parameters
    ++ (flat_map (unknown_port names) m.ports ++ flat_map (unknown_item all names) m.items)

unfoldable pub unknown_module : List (Named Names) → ModuleOf ℕ → List NameError
unknown_module all m = unknown_in all (declared m) m

-- the top
abbrev pub unknown_top : List (Named Names) → List ℕ → List NameError
unknown_top all top = told_if (is_none (value_of all top)) (e.Unknown top)

-- in a file with this top
unfoldable pub unknown_names : FileOf ℕ → List ℕ → List NameError
unknown_names file top = unknown_top (modules_of file) top ++ flat_map (unknown_module (modules_of file)) file.modules
