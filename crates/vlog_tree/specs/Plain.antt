-- A tree of the code as plain data, without pointers, with its lines.
use Rattle.std.specs.Prelude.{ℕ, List, option_map, map}
use Rattle.vlog_tree.specs.Tree.{IdentOf, NumberOf, SignOf, ExprOf, UnaryExpr, BinaryExpr, ChoiceExpr, PrimOf, NumberPrim, RefPrim}
use Rattle.vlog_tree.specs.Tree.{ParenPrim, ConcatPrim, RepeatPrim, RefOf, RefWith, IndexOf, NoIndex, Index, LastOf, NoLast, Last, SelOf}
use Rattle.vlog_tree.specs.Tree.{IndexSel}
use Rattle.vlog_tree.specs.Tree.{PartSel, IndexedSel, ExprsOf, NoExprs, MoreExprs, exprs_of, TargetOf, RefTarget, ConcatTarget, TargetsOf}
use Rattle.vlog_tree.specs.Tree.{NoTargets, MoreTargets, targets_of, StmtOf, BeginStmt, IfStmt, AssignStmt, BodyOf, StmtBody, EmptyBody}
use Rattle.vlog_tree.specs.Tree.{ElseOf, NoElse, Else, StmtsOf, NoStmts, MoreStmts, stmts_of, RangeOf, PortHeadOf, PortOf, NamedValueOf}
use Rattle.vlog_tree.specs.Tree.{RegTailOf, InitTail, Reg1Of, AssignOf, EventOf, PosedgeEvent, AlwaysOf, ItemOf, WiresItem}
use Rattle.vlog_tree.specs.Tree.{DrivenWiresItem}
use Rattle.vlog_tree.specs.Tree.{RegsItem, AssignItem, AlwaysItem, ModuleOf, FileOf}
use Rattle.vlog_tree.specs.Tree.{CaseStmt, ArmOf, LabelsArm, DefaultArm, ArmsOf, NoArms, MoreArms, arms_of, ParameterHeadOf, ParameterOf}
use Rattle.vlog_tree.specs.Tree.{MemoryTail, ImplicitEvent, ConnOf, InstanceOf, LocalparamsItem, InstanceItem}
use Rattle.vlog_tree.specs.declared.expr.Ident.{Ident}
use Rattle.vlog_tree.specs.declared.expr.Number.{Number}
use Rattle.vlog_tree.specs.declared.expr.Sign.{Sign}
use Rattle.vlog_tree.specs.declared.expr.Expr as expr
use Rattle.vlog_tree.specs.declared.expr.Operand as prim
use Rattle.vlog_tree.specs.declared.expr.Ref as ref
use Rattle.vlog_tree.specs.declared.expr.Unary as unary
use Rattle.vlog_tree.specs.declared.expr.Sel as sel
use Rattle.vlog_tree.specs.declared.stmt.Target as target
use Rattle.vlog_tree.specs.declared.stmt.Stmt as stmt
use Rattle.vlog_tree.specs.declared.stmt.Arm as arm
use Rattle.vlog_tree.specs.declared.stmt.Body as body
use Rattle.vlog_tree.specs.declared.module.Range as range
use Rattle.vlog_tree.specs.declared.module.PortHead as head
use Rattle.vlog_tree.specs.declared.module.Port as port
use Rattle.vlog_tree.specs.declared.module.NamedValue as named
use Rattle.vlog_tree.specs.declared.module.ParameterHead as parameter_head
use Rattle.vlog_tree.specs.declared.module.Parameter as parameter
use Rattle.vlog_tree.specs.declared.module.Conn as conn
use Rattle.vlog_tree.specs.declared.module.Instance as instance
use Rattle.vlog_tree.specs.declared.module.RegTail as tail
use Rattle.vlog_tree.specs.declared.module.RegTail.TheVariants as tails
use Rattle.vlog_tree.specs.declared.module.Reg1 as reg
use Rattle.vlog_tree.specs.declared.module.Assign as assign
use Rattle.vlog_tree.specs.declared.module.Event as event
use Rattle.vlog_tree.specs.declared.module.Event.TheVariants as events
use Rattle.vlog_tree.specs.declared.module.Always as always
use Rattle.vlog_tree.specs.declared.module.Item as item
use Rattle.vlog_tree.specs.declared.module.Item.TheVariants as items
use Rattle.vlog_tree.specs.declared.module.Module as unit
use Rattle.vlog_tree.specs.declared.module.File as file

abbrev pub plain_ident : Ident → IdentOf ℕ
plain_ident id = record { name = id.name; line = id.line }

abbrev pub plain_number : Number → NumberOf ℕ
plain_number n = record { kind = n.kind; text = n.text; line = n.line }

abbrev pub plain_sign : Sign → SignOf ℕ
plain_sign s = record { op = s.op; line = s.line }

abbrev mutual
  pub plain_expr : expr.Expr → ExprOf ℕ
  plain_expr (expr.Unary' sign prim) = UnaryExpr (option_map plain_sign sign) (plain_prim prim)
  plain_expr (expr.Binary' p left op q right) = BinaryExpr (plain_expr left) op (plain_expr right)
  plain_expr (expr.Choice' p condition q a r b) = ChoiceExpr (plain_expr condition) (plain_expr a) (plain_expr b)

  pub plain_prim : prim.Operand → PrimOf ℕ
  plain_prim (prim.Number n) = NumberPrim (plain_number n)
  plain_prim (prim.Ref' id index last) = RefPrim (RefWith (plain_ident id) (plain_index index) (plain_last last))
  plain_prim (prim.Paren' line p e) = ParenPrim line (plain_expr e)
  plain_prim (prim.Concat' line shape row) = ConcatPrim line (plain_row row)
  plain_prim (prim.Repeat' line p count shape row) = RepeatPrim line (plain_expr count) (plain_row row)

  pub plain_index : prim.Held-Ref-index → IndexOf ℕ
  plain_index prim.Ref-index-None' = NoIndex
  plain_index (prim.Ref-index-Some' p e) = Index (plain_expr e)

  pub plain_last : prim.Held-Ref-sel → LastOf ℕ
  plain_last prim.Ref-sel-None' = NoLast
  plain_last (prim.Ref-sel-Some' p s) = Last (plain_sel s)

  pub plain_sel : sel.Sel → SelOf ℕ
  plain_sel (sel.Index e) = IndexSel (plain_expr e)
  plain_sel (sel.Part a b) = PartSel (plain_expr a) (plain_expr b)
  plain_sel (sel.Indexed a b) = IndexedSel (plain_expr a) (plain_expr b)

  pub plain_row : {m : _} → prim.Row_of-Expr m → ExprsOf ℕ
  plain_row prim.end_of-Expr = NoExprs
  plain_row (prim.more_of-Expr e row) = MoreExprs (plain_expr e) (plain_row row)

abbrev pub plain_exprs : List expr.Expr → ExprsOf ℕ
plain_exprs es = exprs_of (map plain_expr es)

abbrev pub plain_ref : ref.Ref → RefOf ℕ
plain_ref r = RefWith (plain_ident r.id) (plain_index (ref.back-Ref-index r.index)) (plain_last (ref.back-Ref-sel r.sel))

abbrev pub plain_unary : unary.Unary → ExprOf ℕ
plain_unary u = UnaryExpr (option_map plain_sign u.sign) (plain_prim u.prim)

abbrev mutual
  pub plain_target : target.Target → TargetOf ℕ
  plain_target (target.Ref r) = RefTarget (plain_ref r)
  plain_target (target.Concat' line shape row) = ConcatTarget line (plain_target_row row)

  pub plain_target_row : {m : _} → target.Row_of-Target m → TargetsOf ℕ
  plain_target_row target.end_of-Target = NoTargets
  plain_target_row (target.more_of-Target t row) = MoreTargets (plain_target t) (plain_target_row row)

abbrev pub plain_targets : List target.Target → TargetsOf ℕ
plain_targets ts = targets_of (map plain_target ts)

abbrev mutual
  pub plain_stmt : stmt.Stmt → StmtOf ℕ
  plain_stmt (stmt.Begin' shape row) = BeginStmt (plain_stmt_row row)
  plain_stmt (stmt.If' condition b other) = IfStmt (plain_expr condition) (plain_body b) (plain_else other)
  plain_stmt (stmt.Case' expression shape row) = CaseStmt (plain_expr expression) (plain_arm_row row)
  plain_stmt (stmt.Assign target op value) = AssignStmt (plain_target target) op (plain_expr value)

  pub plain_body : body.Body → BodyOf ℕ
  plain_body (body.Stmt' p s) = StmtBody (plain_stmt s)
  plain_body body.Empty = EmptyBody

  pub plain_else : stmt.Held-Stmt-If-2 → ElseOf ℕ
  plain_else stmt.None' = NoElse
  plain_else (stmt.Some' b) = Else (plain_body b)

  pub plain_arm : arm.Arm → ArmOf ℕ
  plain_arm (arm.Labels labels b) = LabelsArm (map plain_expr labels) (plain_body b)
  plain_arm (arm.Default line colon b) = DefaultArm line colon (plain_body b)

  pub plain_arm_row : {m : _} → stmt.Row_of-Arm m → ArmsOf ℕ
  plain_arm_row stmt.end_of-Arm = NoArms
  plain_arm_row (stmt.more_of-Arm a row) = MoreArms (plain_arm a) (plain_arm_row row)

  pub plain_stmt_row : {m : _} → stmt.Row_of-Stmt m → StmtsOf ℕ
  plain_stmt_row stmt.end_of-Stmt = NoStmts
  plain_stmt_row (stmt.more_of-Stmt s row) = MoreStmts (plain_stmt s) (plain_stmt_row row)

abbrev pub plain_stmts : List stmt.Stmt → StmtsOf ℕ
plain_stmts ss = stmts_of (map plain_stmt ss)

abbrev pub plain_arms : List arm.Arm → ArmsOf ℕ
plain_arms xs = arms_of (map plain_arm xs)

abbrev pub plain_range : range.Range → RangeOf ℕ
plain_range r = record { first = plain_expr r.first; second = plain_expr r.second }

abbrev pub plain_parameter_head : parameter_head.ParameterHead → ParameterHeadOf ℕ
plain_parameter_head h = record { range = option_map plain_range h.range }

abbrev pub plain_parameter : parameter.Parameter → ParameterOf ℕ
plain_parameter p = record { head = option_map plain_parameter_head p.head; id = plain_ident p.id; value = plain_expr p.value }

abbrev pub plain_head : head.PortHead → PortHeadOf ℕ
plain_head h = record { direction = h.direction; range = option_map plain_range h.range }

abbrev pub plain_port : port.Port → PortOf ℕ
plain_port p = record { head = option_map plain_head p.head; id = plain_ident p.id; init = option_map plain_expr p.init }

abbrev pub plain_named : named.NamedValue → NamedValueOf ℕ
plain_named w = record { id = plain_ident w.id; value = plain_expr w.value }

abbrev pub plain_tail : tail.RegTail → RegTailOf ℕ
plain_tail (tails.Init e) = InitTail (plain_expr e)
plain_tail (tails.Memory r) = MemoryTail (plain_range r)

abbrev pub plain_reg : reg.Reg1 → Reg1Of ℕ
plain_reg r = record { id = plain_ident r.id; tail = option_map plain_tail r.tail }

abbrev pub plain_assign : assign.Assign → AssignOf ℕ
plain_assign a = record { target = plain_target a.target; value = plain_expr a.value }

abbrev pub plain_event : event.Event → EventOf ℕ
plain_event (events.Posedge id) = PosedgeEvent (plain_ident id)
plain_event (events.Implicit parens) = ImplicitEvent parens

abbrev pub plain_always : always.Always → AlwaysOf ℕ
plain_always a = record { line = a.line; event = plain_event a.event; body = plain_body a.body }

abbrev pub plain_conn : conn.Conn → ConnOf ℕ
plain_conn c = record { line = c.line; id = plain_ident c.id; value = option_map plain_expr c.value }

abbrev pub plain_instance : instance.Instance → InstanceOf ℕ
plain_instance i = record {
  module_id = plain_ident i.module_id;
  parameters = map plain_conn i.parameters;
  id = plain_ident i.id;
  ports = map plain_conn i.ports;
}

abbrev pub plain_item : item.Item → ItemOf ℕ
plain_item (items.Wires range names) = WiresItem (option_map plain_range range) (map plain_ident names)
plain_item (items.DrivenWires range wires) = DrivenWiresItem (option_map plain_range range) (map plain_named wires)
plain_item (items.Regs range regs) = RegsItem (option_map plain_range range) (map plain_reg regs)
plain_item (items.Localparams range parameters) = LocalparamsItem (option_map plain_range range) (map plain_named parameters)
plain_item (items.Assign assigns) = AssignItem (map plain_assign assigns)
plain_item (items.Always a) = AlwaysItem (plain_always a)
plain_item (items.Instance i) = InstanceItem (plain_instance i)

abbrev pub plain_module : unit.Module → ModuleOf ℕ
plain_module m = record {
  name = m.name;
  parameters = map plain_parameter m.parameters;
  ports = map plain_port m.ports;
  items = map plain_item m.items;
}

abbrev pub plain : file.File → FileOf ℕ
plain f = record { modules = map plain_module f.modules }
