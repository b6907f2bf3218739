-- E5 and E6 in one walk: nothing is found of either kind exactly where nothing is found of both.
use Rattle.std.proofs.Common.{◌≡◌, ℕ, not, List, [], ◌∷◌, ◌++◌, Option, None, Some, refl}
use Rattle.std.specs.Prelude.{Result, Ok, Err, true, false}
use Rattle.std.specs.Result.{is_ok}
use Rattle.std.specs.List.{flat_map}
use Rattle.vlog_size.specs.vidi_bits.Findings.{told_if, first, Judged}
use Rattle.vlog_size.proofs.vidi_bits_lemmas.Lists.{nil_left, nil_right}
use Rattle.vlog_tree.specs.Tree.{ExprOf, TargetOf, IdentOf, RangeOf, NamedValueOf, RegTailOf, InitTail, MemoryTail, Reg1Of}
use Rattle.vlog_tree.specs.Tree.{AssignOf, ConnOf, InstanceOf}
use Rattle.vlog_tree.specs.Tree.{StmtOf, BeginStmt, IfStmt, CaseStmt, AssignStmt, ArmOf, LabelsArm, DefaultArm, ArmsOf, NoArms, MoreArms}
use Rattle.vlog_tree.specs.Tree.{BodyOf, StmtBody, EmptyBody, ElseOf, NoElse, Else, StmtsOf, NoStmts, MoreStmts}
use Rattle.vlog_tree.specs.Tree.{ItemOf, WiresItem, DrivenWiresItem, RegsItem, LocalparamsItem, AssignItem, AlwaysItem, InstanceItem}
use Rattle.vlog_tree.specs.Tree.{ParameterHeadOf, ParameterOf, PortHeadOf, PortOf, ModuleOf}
use Rattle.vlog_size.specs.declared.error.SizeError.{SizeError}
use Rattle.vlog_size.specs.declared.error.SizeError.TheVariants as error
use Rattle.vlog_size.specs.declared.scope.Scope.{Scope}
use Rattle.vlog_size.specs.Literal.{is_lawful}
use Rattle.vlog_size.specs.Names.{Readable}
use Rattle.vlog_size.specs.Size.{Sizes, sizes_of, sizes_of_target, too_large}
use Rattle.vlog_scope.specs.declared.fault.FaultKind.TheVariants.{Constant, Width, Either}
use Rattle.vlog_scope.specs.declared.extent.Extent.{Extent}
use Rattle.vlog_scope.specs.declared.extent.Extent.TheVariants.{NoRange, Bits, AtFault}
use Rattle.vlog_scope.specs.Extents.{constant_sizes, extent_of, parameter_extent, port_extent}
use Rattle.vlog_scope.specs.Scope.{readable_at, after_name, after_item}
use Rattle.vlog_scope.specs.Faults as faults

-- nothing is in the first list exactly where nothing is in both others
pub record AreBoth (either constants widths : List SizeError) : Type 0 where
  pub none : either ≡ [] → (constants ≡ []) × (widths ≡ [])
  pub found : constants ≡ [] → widths ≡ [] → either ≡ []

nothing : AreBoth [] [] []
nothing = record { none = λ h. (refl, refl); found = λ h k. refl }

left_alone : (xs : List SizeError) → AreBoth xs xs []
left_alone xs = record { none = λ h. (h, refl); found = λ h k. h }

right_alone : (xs : List SizeError) → AreBoth xs [] xs
right_alone xs = record { none = λ h. (refl, h); found = λ h k. k }

one_by_one : (xs ys : List SizeError) → AreBoth (xs ++ ys) xs ys
one_by_one xs ys = record {
  none = λ h. (nil_left xs ys h, nil_right xs ys h);
  found = λ h k. rw (h, k) refl;
}

one_behind : {xs ys zs xs2 ys2 zs2 : List SizeError} → AreBoth xs ys zs → AreBoth xs2 ys2 zs2
    → AreBoth (xs ++ xs2) (ys ++ ys2) (zs ++ zs2)
one_behind {xs} {ys} {zs} {xs2} {ys2} {zs2} x y = record {
  none = λ h.
      let first = x.none (nil_left xs xs2 h) in
      let second = y.none (nil_right xs xs2 h) in
      (rw (first.0, second.0) refl, rw (first.1, second.1) refl);
  found = λ h k.
      let first = x.found (nil_left ys ys2 h) (nil_left zs zs2 k) in
      let second = y.found (nil_right ys ys2 h) (nil_right zs zs2 k) in
      rw (first, second) refl;
}

of_each : {A : Type 0} {f g h : A → List SizeError} → ((x : A) → AreBoth (f x) (g x) (h x)) → (xs : List A)
    → AreBoth (flat_map f xs) (flat_map g xs) (flat_map h xs)
of_each one [] = nothing
of_each one (x ∷ xs) = one_behind (one x) (of_each one xs)

-- ---- ranges and names

of_sizes : (e : Sizes) → AreBoth (faults.found Either e) (faults.found Constant e) (faults.found Width e)
of_sizes e = one_by_one e.const_faults e.width_faults

of_bound : (e : Sizes) → AreBoth (faults.bound_faults Either e) (faults.bound_faults Constant e) (faults.bound_faults Width e)
of_bound e = one_behind (left_alone (too_large e)) (of_sizes e)

of_zero : (e : Sizes) → AreBoth (faults.zero_faults Either e) (faults.zero_faults Constant e) (faults.zero_faults Width e)
of_zero e = one_behind (left_alone (faults.not_zero Constant e)) (of_bound e)

of_memory : (r : Readable) (x : RangeOf ℕ)
    → AreBoth (faults.memory_faults Either r x) (faults.memory_faults Constant r x) (faults.memory_faults Width r x)
of_memory r x = one_behind (of_zero (constant_sizes r x.first)) (of_bound (constant_sizes r x.second))

of_range : (r : Readable) (x : Option (RangeOf ℕ))
    → AreBoth (faults.range_faults Either r x) (faults.range_faults Constant r x) (faults.range_faults Width r x)
of_range r None = nothing
of_range r (Some x) = one_behind (of_bound (constant_sizes r x.first)) (of_zero (constant_sizes r x.second))

of_name : (x : Extent) (id : IdentOf ℕ)
    → AreBoth (faults.name_faults Either x id) (faults.name_faults Constant x id) (faults.name_faults Width x id)
of_name NoRange id = nothing
of_name (Bits w) id = right_alone (told_if (not (is_lawful w)) (error.Width id.line w))
of_name AtFault id = nothing

-- ---- expressions and statements

of_expr : (r : Readable) (e : ExprOf ℕ)
    → AreBoth (faults.expr_faults Either r e) (faults.expr_faults Constant r e) (faults.expr_faults Width r e)
of_expr r e = of_sizes (sizes_of r e)

of_constant : (r : Readable) (e : ExprOf ℕ)
    → AreBoth (faults.constant_faults Either r e) (faults.constant_faults Constant r e) (faults.constant_faults Width r e)
of_constant r e = of_sizes (constant_sizes r e)

of_assign : (r : Readable) (target : TargetOf ℕ) (e : ExprOf ℕ)
    → AreBoth (faults.assign_faults Either r target e) (faults.assign_faults Constant r target e) (faults.assign_faults Width r target e)
of_assign r target e = one_behind (of_sizes (sizes_of_target r target)) (of_expr r e)

mutual
  of_stmt : (r : Readable) (s : StmtOf ℕ)
      → AreBoth (faults.stmt_faults Either r s) (faults.stmt_faults Constant r s) (faults.stmt_faults Width r s)
  of_stmt r (BeginStmt ss) = of_stmts r ss
  of_stmt r (IfStmt condition b other) = one_behind (of_expr r condition) (one_behind (of_body r b) (of_else r other))
  of_stmt r (CaseStmt e arms) = one_behind (of_expr r e) (of_arms r arms)
  of_stmt r (AssignStmt target op e) = of_assign r target e

  of_stmts : (r : Readable) (ss : StmtsOf ℕ)
      → AreBoth (faults.stmts_faults Either r ss) (faults.stmts_faults Constant r ss) (faults.stmts_faults Width r ss)
  of_stmts r NoStmts = nothing
  of_stmts r (MoreStmts s ss) = one_behind (of_stmt r s) (of_stmts r ss)

  of_body : (r : Readable) (b : BodyOf ℕ)
      → AreBoth (faults.body_faults Either r b) (faults.body_faults Constant r b) (faults.body_faults Width r b)
  of_body r (StmtBody s) = of_stmt r s
  of_body r EmptyBody = nothing

  of_else : (r : Readable) (b : ElseOf ℕ)
      → AreBoth (faults.else_faults Either r b) (faults.else_faults Constant r b) (faults.else_faults Width r b)
  of_else r NoElse = nothing
  of_else r (Else b) = of_body r b

  of_arm : (r : Readable) (a : ArmOf ℕ)
      → AreBoth (faults.arm_faults Either r a) (faults.arm_faults Constant r a) (faults.arm_faults Width r a)
  of_arm r (LabelsArm labels b) = one_behind (of_each (of_expr r) labels) (of_body r b)
  of_arm r (DefaultArm line colon b) = of_body r b

  of_arms : (r : Readable) (arms : ArmsOf ℕ)
      → AreBoth (faults.arms_faults Either r arms) (faults.arms_faults Constant r arms) (faults.arms_faults Width r arms)
  of_arms r NoArms = nothing
  of_arms r (MoreArms a more) = one_behind (of_arm r a) (of_arms r more)

-- ---- items

of_fixed : (r : Readable) (e : Option (ExprOf ℕ))
    → AreBoth (faults.fixed_faults Either r e) (faults.fixed_faults Constant r e) (faults.fixed_faults Width r e)
of_fixed r None = nothing
of_fixed r (Some e) = of_constant r e

of_joined : (r : Readable) (e : Option (ExprOf ℕ))
    → AreBoth (faults.joined_faults Either r e) (faults.joined_faults Constant r e) (faults.joined_faults Width r e)
of_joined r None = nothing
of_joined r (Some e) = of_expr r e

of_driven : (r : Readable) (x : Extent) (w : NamedValueOf ℕ)
    → AreBoth (faults.driven_faults Either r x w) (faults.driven_faults Constant r x w) (faults.driven_faults Width r x w)
of_driven r x w = one_behind (of_name x w.id) (of_expr r w.value)

of_tail : (r : Readable) (t : Option (RegTailOf ℕ))
    → AreBoth (faults.tail_faults Either r t) (faults.tail_faults Constant r t) (faults.tail_faults Width r t)
of_tail r None = nothing
of_tail r (Some (InitTail e)) = of_constant r e
of_tail r (Some (MemoryTail range)) = of_memory r range

of_reg : (r : Readable) (x : Extent) (g : Reg1Of ℕ)
    → AreBoth (faults.reg_faults Either r x g) (faults.reg_faults Constant r x g) (faults.reg_faults Width r x g)
of_reg r x g = one_behind (of_name x g.id) (of_tail r g.tail)

of_instance : (r : Readable) (i : InstanceOf ℕ)
    → AreBoth (faults.instance_faults Either r i) (faults.instance_faults Constant r i) (faults.instance_faults Width r i)
of_instance r i = one_behind (of_each (λ (c : ConnOf ℕ). of_fixed r c.value) i.parameters) (of_each (λ (c : ConnOf ℕ). of_joined r c.value) i.ports)

of_locals : (s : Scope) (k : ℕ) (x : Extent) (vs : List (NamedValueOf ℕ))
    → AreBoth (faults.local_faults Either s k x vs) (faults.local_faults Constant s k x vs) (faults.local_faults Width s k x vs)
of_locals s k x [] = nothing
of_locals s k x (v ∷ vs) =
    one_behind (of_name x v.id) (one_behind (of_constant (readable_at s k) v.value) (of_locals s (after_name s.params k v.id.name) x vs))

of_item : (s : Scope) (k : ℕ) (i : ItemOf ℕ)
    → AreBoth (faults.item_faults Either s k i) (faults.item_faults Constant s k i) (faults.item_faults Width s k i)
unfolding faults.item_faults
of_item s k (WiresItem range ids) =
    one_behind (of_range (readable_at s k) range) (of_each (of_name (extent_of (readable_at s k) range)) ids)
of_item s k (DrivenWiresItem range ws) =
    one_behind (of_range (readable_at s k) range) (of_each (of_driven (readable_at s k) (extent_of (readable_at s k) range)) ws)
of_item s k (RegsItem range gs) =
    one_behind (of_range (readable_at s k) range) (of_each (of_reg (readable_at s k) (extent_of (readable_at s k) range)) gs)
of_item s k (LocalparamsItem range vs) =
    one_behind (of_range (readable_at s k) range) (of_locals s k (extent_of (readable_at s k) range) vs)
of_item s k (AssignItem assigns) = of_each (λ (a : AssignOf ℕ). of_assign (readable_at s k) a.target a.value) assigns
of_item s k (AlwaysItem a) = of_body (readable_at s k) a.body
of_item s k (InstanceItem i) = of_instance (readable_at s k) i

of_items : (s : Scope) (k : ℕ) (is : List (ItemOf ℕ))
    → AreBoth (faults.items_faults Either s k is) (faults.items_faults Constant s k is) (faults.items_faults Width s k is)
of_items s k [] = nothing
of_items s k (i ∷ is) = one_behind (of_item s k i) (of_items s (after_item s.params k i) is)

-- ---- parameters and ports

of_parameter_head : (r : Readable) (head : Option (ParameterHeadOf ℕ)) → AreBoth (faults.parameter_head_faults Either r head)
    (faults.parameter_head_faults Constant r head) (faults.parameter_head_faults Width r head)
of_parameter_head r None = nothing
of_parameter_head r (Some head) = of_range r head.range

of_parameter : (r : Readable) (x : Extent) (p : ParameterOf ℕ)
    → AreBoth (faults.parameter_faults Either r x p) (faults.parameter_faults Constant r x p) (faults.parameter_faults Width r x p)
of_parameter r x p = one_behind (of_parameter_head r p.head) (one_behind (of_name x p.id) (of_constant r p.value))

of_parameters : (s : Scope) (k : ℕ) (before : Extent) (ps : List (ParameterOf ℕ)) → AreBoth (faults.parameters_faults Either s k before ps)
    (faults.parameters_faults Constant s k before ps) (faults.parameters_faults Width s k before ps)
of_parameters s k before [] = nothing
of_parameters s k before (p ∷ ps) =
    let own = parameter_extent (readable_at s k) before p.head in
    one_behind (of_parameter (readable_at s k) own p) (of_parameters s (after_name s.params k p.id.name) own ps)

of_port_head : (r : Readable) (head : Option (PortHeadOf ℕ))
    → AreBoth (faults.port_head_faults Either r head) (faults.port_head_faults Constant r head) (faults.port_head_faults Width r head)
of_port_head r None = nothing
of_port_head r (Some head) = of_range r head.range

of_port : (r : Readable) (x : Extent) (p : PortOf ℕ)
    → AreBoth (faults.port_faults Either r x p) (faults.port_faults Constant r x p) (faults.port_faults Width r x p)
of_port r x p = one_behind (of_port_head r p.head) (one_behind (of_name x p.id) (of_fixed r p.init))

of_ports : (r : Readable) (before : Extent) (ps : List (PortOf ℕ))
    → AreBoth (faults.ports_faults Either r before ps) (faults.ports_faults Constant r before ps) (faults.ports_faults Width r before ps)
of_ports r before [] = nothing
of_ports r before (p ∷ ps) =
    let own = port_extent r before p.head in
    one_behind (of_port r own p) (of_ports r own ps)

pub of_scope : (m : ModuleOf ℕ) (s : Scope)
    → AreBoth (faults.scope_faults Either m s) (faults.scope_faults Constant m s) (faults.scope_faults Width m s)
unfolding faults.scope_faults
of_scope m s =
    one_behind (of_parameters s 0 NoRange m.parameters)
    (one_behind (of_ports (readable_at s s.declared) NoRange m.ports) (of_items s s.declared m.items))

-- ---- the answer

empty_first : (xs : List SizeError) (e : SizeError) → first xs ≡ Some e → xs ≡ [] → true ≡ false
empty_first [] e f h = (cc)
empty_first (x ∷ xs) e f h = (cc)

pub ok_then : {A : Type 0} (r : Result A SizeError) (m : ModuleOf ℕ) (s : Scope) → Judged Some r (faults.scope_faults Either m s)
    → is_ok r ≡ true → (faults.const_faults m s ≡ []) × (faults.width_faults m s ≡ [])
ok_then (Ok a) m s judged h = (of_scope m s).none judged
ok_then (Err e) m s judged h = absurd (cc)

pub ok_where : {A : Type 0} (r : Result A SizeError) (m : ModuleOf ℕ) (s : Scope) → Judged Some r (faults.scope_faults Either m s)
    → faults.const_faults m s ≡ [] → faults.width_faults m s ≡ [] → is_ok r ≡ true
ok_where (Ok a) m s judged h k = refl
ok_where (Err e) m s judged h k =
    let none = (of_scope m s).found h k in
    let wrong = empty_first (faults.scope_faults Either m s) e judged none in
    absurd (cc)
