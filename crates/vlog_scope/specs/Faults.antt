-- E5 and E6 of a module instance: all that is found in its scope, in text order.
use Rattle.std.specs.Prelude.{ℕ, not, List, [], ◌∷◌, ◌++◌, Option, Some, None}
use Rattle.std.specs.List.{flat_map}
use Rattle.vlog_size.specs.vidi_bits.Findings.{told_if}
use Rattle.vlog_tree.specs.Tree.{ExprOf, TargetOf, IdentOf, RangeOf, NamedValueOf, RegTailOf, InitTail, MemoryTail, Reg1Of}
use Rattle.vlog_tree.specs.Tree.{AssignOf, ConnOf, InstanceOf}
use Rattle.vlog_tree.specs.Tree.{StmtOf, BeginStmt, IfStmt, CaseStmt, AssignStmt, ArmOf, LabelsArm, DefaultArm, ArmsOf, NoArms, MoreArms}
use Rattle.vlog_tree.specs.Tree.{BodyOf, StmtBody, EmptyBody, ElseOf, NoElse, Else, StmtsOf, NoStmts, MoreStmts}
use Rattle.vlog_tree.specs.Tree.{ItemOf, WiresItem, DrivenWiresItem, RegsItem, LocalparamsItem, AssignItem, AlwaysItem, InstanceItem}
use Rattle.vlog_tree.specs.Tree.{ParameterHeadOf, ParameterOf, PortHeadOf, PortOf, ModuleOf}
use Rattle.vlog_size.specs.declared.error.SizeError.{SizeError}
use Rattle.vlog_size.specs.declared.error.SizeError.TheVariants as error
use Rattle.vlog_size.specs.declared.scope.Scope.{Scope}
use Rattle.vlog_size.specs.Literal.{is_lawful}
use Rattle.vlog_size.specs.Names.{Readable}
use Rattle.vlog_size.specs.Size.{Sizes, sizes_of, sizes_of_target, number, reaches, too_large}
use Rattle.vlog_scope.specs.declared.fault.FaultKind.{FaultKind}
use Rattle.vlog_scope.specs.declared.fault.FaultKind.TheVariants.{Constant, Width, Either}
use Rattle.vlog_scope.specs.declared.extent.Extent.{Extent}
use Rattle.vlog_scope.specs.declared.extent.Extent.TheVariants.{NoRange, Bits}
use Rattle.vlog_scope.specs.Extents.{constant_sizes, extent_of, parameter_extent, port_extent}
use Rattle.vlog_scope.specs.Scope.{readable_at, after_name, after_item}

-- what is found of one kind in an expression or a target
abbrev pub found : FaultKind → Sizes → List SizeError
found Constant e = e.const_faults
found Width e = e.width_faults
found Either e = e.const_faults ++ e.width_faults

-- a bound: sized and above 2,147,483,647, or what is found in it
abbrev pub bound_faults : FaultKind → Sizes → List SizeError
bound_faults Constant e = too_large e ++ e.const_faults
bound_faults Width e = e.width_faults
bound_faults Either e = too_large e ++ (e.const_faults ++ e.width_faults)

-- a bound that isn't 0
abbrev pub not_zero : FaultKind → Sizes → List SizeError
not_zero Constant e = told_if (reaches 1 (number e)) (error.Const e.line)
not_zero Width e = []
not_zero Either e = told_if (reaches 1 (number e)) (error.Const e.line)

-- a bound that has to be 0
abbrev pub zero_faults : FaultKind → Sizes → List SizeError
zero_faults kind e = not_zero kind e ++ bound_faults kind e

-- a vector's range, whose second bound is the low one
abbrev pub vector_faults : FaultKind → Readable → RangeOf ℕ → List SizeError
vector_faults kind r x = bound_faults kind (constant_sizes r x.first) ++ zero_faults kind (constant_sizes r x.second)

-- a memory's range, whose first bound is the low one
abbrev pub memory_faults : FaultKind → Readable → RangeOf ℕ → List SizeError
memory_faults kind r x = zero_faults kind (constant_sizes r x.first) ++ bound_faults kind (constant_sizes r x.second)

abbrev pub range_faults : FaultKind → Readable → Option (RangeOf ℕ) → List SizeError
range_faults kind r None = []
range_faults kind r (Some x) = vector_faults kind r x

-- E6 at a declared name: a range of more than 128 bits; where the range is at fault the name isn't
abbrev pub name_faults : FaultKind → Extent → IdentOf ℕ → List SizeError
name_faults Width (Bits w) id = told_if (not (is_lawful w)) (error.Width id.line w)
name_faults Either (Bits w) id = told_if (not (is_lawful w)) (error.Width id.line w)
name_faults kind x id = []

-- an expression
abbrev pub expr_faults : FaultKind → Readable → ExprOf ℕ → List SizeError
expr_faults kind r e = found kind (sizes_of r e)

-- an expression in a constant position
abbrev pub constant_faults : FaultKind → Readable → ExprOf ℕ → List SizeError
constant_faults kind r e = found kind (constant_sizes r e)

-- `target = value`
abbrev pub assign_faults : FaultKind → Readable → TargetOf ℕ → ExprOf ℕ → List SizeError
assign_faults kind r target e = found kind (sizes_of_target r target) ++ expr_faults kind r e

abbrev pub assigned_faults : FaultKind → Readable → AssignOf ℕ → List SizeError
assigned_faults kind r a = assign_faults kind r a.target a.value

abbrev mutual
  pub stmt_faults : FaultKind → Readable → StmtOf ℕ → List SizeError
  stmt_faults kind r (BeginStmt ss) = stmts_faults kind r ss
  stmt_faults kind r (IfStmt condition b other) = expr_faults kind r condition ++ (body_faults kind r b ++ else_faults kind r other)
  stmt_faults kind r (CaseStmt e arms) = expr_faults kind r e ++ arms_faults kind r arms
  stmt_faults kind r (AssignStmt target op e) = assign_faults kind r target e

  pub stmts_faults : FaultKind → Readable → StmtsOf ℕ → List SizeError
  stmts_faults kind r NoStmts = []
  stmts_faults kind r (MoreStmts s ss) = stmt_faults kind r s ++ stmts_faults kind r ss

  pub body_faults : FaultKind → Readable → BodyOf ℕ → List SizeError
  body_faults kind r (StmtBody s) = stmt_faults kind r s
  body_faults kind r EmptyBody = []

  pub else_faults : FaultKind → Readable → ElseOf ℕ → List SizeError
  else_faults kind r NoElse = []
  else_faults kind r (Else b) = body_faults kind r b

  pub arm_faults : FaultKind → Readable → ArmOf ℕ → List SizeError
  arm_faults kind r (LabelsArm labels b) = flat_map (expr_faults kind r) labels ++ body_faults kind r b
  arm_faults kind r (DefaultArm line colon b) = body_faults kind r b

  pub arms_faults : FaultKind → Readable → ArmsOf ℕ → List SizeError
  arms_faults kind r NoArms = []
  arms_faults kind r (MoreArms a more) = arm_faults kind r a ++ arms_faults kind r more

-- a wire with its value
abbrev pub driven_faults : FaultKind → Readable → Extent → NamedValueOf ℕ → List SizeError
driven_faults kind r x w = name_faults kind x w.id ++ expr_faults kind r w.value

-- an initialiser, or the range of a memory's words
abbrev pub tail_faults : FaultKind → Readable → Option (RegTailOf ℕ) → List SizeError
tail_faults kind r None = []
tail_faults kind r (Some (InitTail e)) = constant_faults kind r e
tail_faults kind r (Some (MemoryTail range)) = memory_faults kind r range

abbrev pub reg_faults : FaultKind → Readable → Extent → Reg1Of ℕ → List SizeError
reg_faults kind r x g = name_faults kind x g.id ++ tail_faults kind r g.tail

-- an initialiser or an override, where there is one
abbrev pub fixed_faults : FaultKind → Readable → Option (ExprOf ℕ) → List SizeError
fixed_faults kind r None = []
fixed_faults kind r (Some e) = constant_faults kind r e

-- the connection of a port, where there is one
abbrev pub joined_faults : FaultKind → Readable → Option (ExprOf ℕ) → List SizeError
joined_faults kind r None = []
joined_faults kind r (Some e) = expr_faults kind r e

abbrev pub override_faults : FaultKind → Readable → ConnOf ℕ → List SizeError
override_faults kind r c = fixed_faults kind r c.value

abbrev pub conn_faults : FaultKind → Readable → ConnOf ℕ → List SizeError
conn_faults kind r c = joined_faults kind r c.value

-- an instance's connections of parameters, then those of ports
abbrev pub instance_faults : FaultKind → Readable → InstanceOf ℕ → List SizeError
instance_faults kind r i = flat_map (override_faults kind r) i.parameters ++ flat_map (conn_faults kind r) i.ports

-- the parameters of one `localparam`, each of which the next ones may read
abbrev pub local_faults : FaultKind → Scope → ℕ → Extent → List (NamedValueOf ℕ) → List SizeError
local_faults kind s k x [] = []
local_faults kind s k x (v ∷ vs) =
    name_faults kind x v.id ++ (constant_faults kind (readable_at s k) v.value
    ++ local_faults kind s (after_name s.params k v.id.name) x vs)

-- an item, before which the names of the first k parameters stand
unfoldable pub item_faults : FaultKind → Scope → ℕ → ItemOf ℕ → List SizeError
item_faults kind s k (WiresItem range ids) =
    range_faults kind (readable_at s k) range ++ flat_map (name_faults kind (extent_of (readable_at s k) range)) ids
item_faults kind s k (DrivenWiresItem range ws) =
    range_faults kind (readable_at s k) range
    ++ flat_map (driven_faults kind (readable_at s k) (extent_of (readable_at s k) range)) ws
item_faults kind s k (RegsItem range gs) =
    range_faults kind (readable_at s k) range
    ++ flat_map (reg_faults kind (readable_at s k) (extent_of (readable_at s k) range)) gs
item_faults kind s k (LocalparamsItem range vs) =
    range_faults kind (readable_at s k) range ++ local_faults kind s k (extent_of (readable_at s k) range) vs
item_faults kind s k (AssignItem assigns) = flat_map (assigned_faults kind (readable_at s k)) assigns
item_faults kind s k (AlwaysItem a) = body_faults kind (readable_at s k) a.body
item_faults kind s k (InstanceItem i) = instance_faults kind (readable_at s k) i

abbrev pub items_faults : FaultKind → Scope → ℕ → List (ItemOf ℕ) → List SizeError
items_faults kind s k [] = []
items_faults kind s k (i ∷ is) = item_faults kind s k i ++ items_faults kind s (after_item s.params k i) is

-- the range behind the word `parameter`
abbrev pub parameter_head_faults : FaultKind → Readable → Option (ParameterHeadOf ℕ) → List SizeError
parameter_head_faults kind r None = []
parameter_head_faults kind r (Some head) = range_faults kind r head.range

-- a parameter of the header; its own expression is looked at also where another one makes it
abbrev pub parameter_faults : FaultKind → Readable → Extent → ParameterOf ℕ → List SizeError
parameter_faults kind r x p =
    parameter_head_faults kind r p.head ++ (name_faults kind x p.id ++ constant_faults kind r p.value)

abbrev pub parameters_faults : FaultKind → Scope → ℕ → Extent → List (ParameterOf ℕ) → List SizeError
parameters_faults kind s k before [] = []
parameters_faults kind s k before (p ∷ ps) =
    parameter_faults kind (readable_at s k) (parameter_extent (readable_at s k) before p.head) p
    ++ parameters_faults kind s (after_name s.params k p.id.name) (parameter_extent (readable_at s k) before p.head) ps

-- the range behind a direction
abbrev pub port_head_faults : FaultKind → Readable → Option (PortHeadOf ℕ) → List SizeError
port_head_faults kind r None = []
port_head_faults kind r (Some head) = range_faults kind r head.range

abbrev pub port_faults : FaultKind → Readable → Extent → PortOf ℕ → List SizeError
port_faults kind r x p = port_head_faults kind r p.head ++ (name_faults kind x p.id ++ fixed_faults kind r p.init)

abbrev pub ports_faults : FaultKind → Readable → Extent → List (PortOf ℕ) → List SizeError
ports_faults kind r before [] = []
ports_faults kind r before (p ∷ ps) =
    port_faults kind r (port_extent r before p.head) p ++ ports_faults kind r (port_extent r before p.head) ps

-- what is found of one kind in a module instance of this scope, in text order
unfoldable pub scope_faults : FaultKind → ModuleOf ℕ → Scope → List SizeError
scope_faults kind m s =
    parameters_faults kind s 0 NoRange m.parameters
    ++ (ports_faults kind (readable_at s s.declared) NoRange m.ports ++ items_faults kind s s.declared m.items)

-- E5 of an instance
abbrev pub const_faults : ModuleOf ℕ → Scope → List SizeError
const_faults m s = scope_faults Constant m s

-- E6 of an instance
abbrev pub width_faults : ModuleOf ℕ → Scope → List SizeError
width_faults m s = scope_faults Width m s
