-- What the items of an instance ask of the numbers of its nets (IEEE 1364-2005, 6.1 assignments, 9.7.5 `always @*`, 12.3 connections):
-- the equations of *Settled map*.
use Rattle.std.specs.Prelude.{◌≡◌, ℕ, max, Bool, true, false, List, [], ◌∷◌, ◌++◌, Option, None, Some, option_map}
use Rattle.std.specs.List.{Contains, AllByRecursion}
use Rattle.vlog_tree.specs.Tree.{IdentOf, ExprOf, UnaryExpr, BinaryExpr, ChoiceExpr, PrimOf, NumberPrim, RefPrim, ParenPrim, ConcatPrim}
use Rattle.vlog_tree.specs.Tree.{RepeatPrim, RefWith, NoIndex, NoLast, ExprsOf, NoExprs, MoreExprs}
use Rattle.vlog_tree.specs.Tree.{TargetOf, RefTarget, ConcatTarget, TargetsOf, NoTargets, MoreTargets}
use Rattle.vlog_tree.specs.Tree.{NamedValueOf, AssignOf, EventOf, PosedgeEvent, ImplicitEvent, AlwaysOf, ConnOf, InstanceOf}
use Rattle.vlog_tree.specs.Tree.{ItemOf, WiresItem, DrivenWiresItem, RegsItem, LocalparamsItem, AssignItem, AlwaysItem, InstanceItem}
use Rattle.vlog_tree.specs.Tree.{ModuleOf}
use Rattle.vlog_names.specs.vlog_size.declared.scope.Scope.{Scope}
use Rattle.vlog_names.specs.vlog_size.Names.{Readable}
use Rattle.vlog_scope.specs.Scope.{readable_at, scope_of}
use Rattle.net_design.specs.declared.values.Values.{Values}
use Rattle.net_design.specs.Last.{HasLast}
use Rattle.vlog_block.specs.Value.{value, width_of}
use Rattle.vlog_block.specs.Targets.{target_width, target_updates}
use Rattle.vlog_block.specs.Updates.{always_updates}
use Rattle.vlog_driver.specs.Names.{Full, numbers_at}
use Rattle.vlog_driver.specs.Placed.{Placed, names_at}
use Rattle.vlog_names.specs.Ports.{has_output}

-- ---- assignments

-- each bit of the target is in v what the assignment makes it: the target's bits are those of the expression's value at the larger of both
-- widths (5.4.1). The target's names are r's and have the numbers of v, the expression's are q's and have those of u
abbrev pub IsAssigned : Readable → Values → TargetOf ℕ → Readable → Values → ExprOf ℕ → Type 0
IsAssigned r v target q u e = HasLast (target_updates r v target (value q u e (max (target_width r target) (width_of q e)))) v

-- a whole net as a target
abbrev pub whole : IdentOf ℕ → TargetOf ℕ
whole id = RefTarget (RefWith id NoIndex NoLast)

-- a whole net as an expression
abbrev pub read : IdentOf ℕ → ExprOf ℕ
read id = UnaryExpr None (RefPrim (RefWith id NoIndex NoLast))

abbrev pub AssignHolds : Readable → Values → AssignOf ℕ → Type 0
AssignHolds r v a = IsAssigned r v a.target r v a.value

-- a wire's expression
abbrev pub WireHolds : Readable → Values → NamedValueOf ℕ → Type 0
WireHolds r v w = IsAssigned r v (whole w.id) r v w.value

-- ---- `always @*`: each bit that it writes is what the last of its updates makes it; a clocked block asks nothing

abbrev pub EventHolds : EventOf ℕ → Readable → Values → AlwaysOf ℕ → Type 0
EventHolds (PosedgeEvent clock) r v a = Unit {0}
EventHolds (ImplicitEvent parens) r v a = HasLast (always_updates r a v) v

abbrev pub AlwaysHolds : Readable → Values → AlwaysOf ℕ → Type 0
AlwaysHolds r v a = EventHolds a.event r v a

-- ---- connections

-- the target that an expression has the form of: a name with its brackets, or a concatenation of such
abbrev pub both_parts : Option (TargetOf ℕ) → Option (TargetsOf ℕ) → Option (TargetsOf ℕ)
both_parts (Some t) (Some ts) = Some (MoreTargets t ts)
both_parts _ _ = None

abbrev mutual
  pub target_of : ExprOf ℕ → Option (TargetOf ℕ)
  target_of (UnaryExpr None prim) = target_of_prim prim
  target_of (UnaryExpr (Some sign) prim) = None
  target_of (BinaryExpr a op b) = None
  target_of (ChoiceExpr c a b) = None

  pub target_of_prim : PrimOf ℕ → Option (TargetOf ℕ)
  target_of_prim (NumberPrim n) = None
  target_of_prim (RefPrim ref) = Some (RefTarget ref)
  target_of_prim (ParenPrim line e) = None
  target_of_prim (ConcatPrim line es) = option_map (ConcatTarget line) (targets_of es)
  target_of_prim (RepeatPrim line count es) = None

  pub targets_of : ExprsOf ℕ → Option (TargetsOf ℕ)
  targets_of NoExprs = Some NoTargets
  targets_of (MoreExprs e es) = both_parts (target_of e) (targets_of es)

-- a child's input gets the parent's expression; the target that the parent's expression has the form of gets the child's output. r and v
-- are the parent's, q and u the child's; an empty connection asks nothing
abbrev pub JoinHolds : Bool → Readable → Values → Readable → Values → IdentOf ℕ → Option (ExprOf ℕ) → Type 0
JoinHolds output r v q u port None = Unit {0}
JoinHolds false r v q u port (Some e) = IsAssigned q u (whole port) r v e
JoinHolds true r v q u port (Some e) = (target : TargetOf ℕ) → target_of e ≡ Some target → IsAssigned r v target q u (read port)

abbrev pub ConnHolds : ModuleOf ℕ → Readable → Values → Readable → Values → ConnOf ℕ → Type 0
ConnHolds child r v q u c = JoinHolds (has_output child c.id.name) r v q u c.id c.value

-- the connections of the ports of an instance, whose module and scope these are
abbrev pub ConnsHold : ModuleOf ℕ → Readable → Values → Readable → Values → InstanceOf ℕ → Type 0
ConnsHold child r v q u i = AllByRecursion (ConnHolds child r v q u) i.ports

-- ---- the items of the instance at a path, whose scope is s

module _ (file : List (ModuleOf ℕ)) (nets : Full → ℕ) (words : Full → ℕ → ℕ) (path : Full) (s : Scope) where
  -- an instance in it, before which the names of the first k parameters stand
  abbrev pub InstanceHolds : ℕ → InstanceOf ℕ → Type 0
  InstanceHolds k i = (child : ModuleOf ℕ) → Contains file child → child.name ≡ i.module_id.name
      → ConnsHold child (names_at s k) (numbers_at nets words path s)
      (names_at (scope_of (readable_at s k) i.parameters child) (scope_of (readable_at s k) i.parameters child).declared)
      (numbers_at nets words (path ++ i.id.name ∷ []) (scope_of (readable_at s k) i.parameters child)) i

  abbrev pub HoldsAt : ℕ → ItemOf ℕ → Type 0
  HoldsAt k (WiresItem range ids) = Unit {0}
  HoldsAt k (DrivenWiresItem range ws) = AllByRecursion (WireHolds (names_at s k) (numbers_at nets words path s)) ws
  HoldsAt k (RegsItem range gs) = Unit {0}
  HoldsAt k (LocalparamsItem range vs) = Unit {0}
  HoldsAt k (AssignItem assigns) = AllByRecursion (AssignHolds (names_at s k) (numbers_at nets words path s)) assigns
  HoldsAt k (AlwaysItem a) = AlwaysHolds (names_at s k) (numbers_at nets words path s) a
  HoldsAt k (InstanceItem i) = InstanceHolds k i

  abbrev pub ItemHolds : Placed → Type 0
  ItemHolds p = HoldsAt p.declared p.item
