-- In an instance of a lawful scope in which nothing is found, nothing is found in what its items are made of.
use Rattle.std.proofs.Common.{◌≡◌, ℕ, true, List, [], ◌∷◌, ◌++◌, ap, ◌∙◌}
use Rattle.std.specs.List.{flat_map, AllByRecursion}
use Rattle.vlog_tree.specs.Tree.{ExprOf, TargetOf, AssignOf, StmtOf, BeginStmt, IfStmt, CaseStmt, AssignStmt, StmtsOf, NoStmts, MoreStmts}
use Rattle.vlog_tree.specs.Tree.{ArmOf, LabelsArm, DefaultArm, ArmsOf, NoArms, MoreArms, BodyOf, StmtBody, EmptyBody, ElseOf, NoElse, Else}
use Rattle.vlog_tree.specs.Tree.{ItemOf, WiresItem, DrivenWiresItem, RegsItem, LocalparamsItem, AssignItem, AlwaysItem, InstanceItem}
use Rattle.flat_parts.specs.vlog_size.declared.scope.Scope.{Scope}
use Rattle.flat_parts.specs.vlog_size.Names.{Readable, checked, is_lawful_readable, is_lawful_scope}
use Rattle.flat_parts.specs.vlog_size.Size.{Sizes, sizes_of, sizes_of_target, faults}
use Rattle.flat_parts.proofs.vlog_size_lemmas.Alike.{expr_alike, target_alike}
use Rattle.flat_parts.proofs.vlog_size_lemmas.Meanings.{scope_lawful}
use Rattle.flat_parts.specs.vlog_scope.declared.fault.FaultKind.TheVariants.{Constant, Width}
use Rattle.flat_parts.specs.vlog_scope.Scope.{readable_at, after_item}
use Rattle.flat_parts.specs.vlog_scope.Faults.{found, expr_faults, assign_faults, assigned_faults, stmt_faults, stmts_faults, body_faults, else_faults}
use Rattle.flat_parts.specs.vlog_scope.Faults.{arm_faults, arms_faults, item_faults, items_faults, const_faults, width_faults}
use Rattle.flat_parts.specs.vlog_driver.Faultless.{IsFaultless, IsFaultlessTarget, IsFaultlessStmt, AreFaultlessStmts, IsFaultlessBody}
use Rattle.flat_parts.specs.vlog_driver.Faultless.{IsFaultlessElse, IsFaultlessArm, AreFaultlessArms}
use Rattle.flat_parts.specs.vlog_driver.Placed.{placed, placed_items}
use Rattle.flat_parts.specs.vlog_driver.Duties.{IsFaultlessAssign}
use Rattle.flat_parts.specs.vlog_elab.Instances.{ModuleInstance}
use Rattle.flat_parts.specs.net_code.declared.base.Base.{Base}
use Rattle.flat_drivers.specs.Adding.{site_from, IsFaultlessItem, IsFaultlessPlaced}
use Rattle.flat_drivers.proofs.Lawful.{parts_empty, items_empty}

no_faults : (e : Sizes) → e.const_faults ≡ [] → e.width_faults ≡ [] → faults e ≡ []
unfolding faults
no_faults e c w = ap (λ xs. xs ++ e.width_faults) c ∙ w

module _ (r : Readable) (lawful : is_lawful_readable r ≡ true) where
  expr_clean : (e : ExprOf ℕ) → expr_faults Constant r e ≡ [] → expr_faults Width r e ≡ [] → IsFaultless (checked r) e
  expr_clean e c w = ap faults (expr_alike r lawful e) ∙ no_faults (sizes_of r e) c w

  target_clean : (t : TargetOf ℕ) → found Constant (sizes_of_target r t) ≡ [] → found Width (sizes_of_target r t) ≡ []
      → IsFaultlessTarget (checked r) t
  target_clean t c w = ap faults (target_alike r lawful t) ∙ no_faults (sizes_of_target r t) c w

  assign_clean : (t : TargetOf ℕ) (e : ExprOf ℕ) → assign_faults Constant r t e ≡ [] → assign_faults Width r t e ≡ []
      → IsFaultlessTarget (checked r) t × IsFaultless (checked r) e
  assign_clean t e c w =
      let cs = parts_empty (found Constant (sizes_of_target r t)) (expr_faults Constant r e) c in
      let ws = parts_empty (found Width (sizes_of_target r t)) (expr_faults Width r e) w in
      (target_clean t cs.0 ws.0, expr_clean e cs.1 ws.1)

  exprs_clean : (es : List (ExprOf ℕ)) → flat_map (expr_faults Constant r) es ≡ [] → flat_map (expr_faults Width r) es ≡ []
      → AllByRecursion (λ (e : ExprOf ℕ). IsFaultless (checked r) e) es
  exprs_clean [] c w = tt
  exprs_clean (e ∷ es) c w =
      let cs = parts_empty (expr_faults Constant r e) (flat_map (expr_faults Constant r) es) c in
      let ws = parts_empty (expr_faults Width r e) (flat_map (expr_faults Width r) es) w in
      (expr_clean e cs.0 ws.0, exprs_clean es cs.1 ws.1)

  mutual
    stmt_clean : (s : StmtOf ℕ) → stmt_faults Constant r s ≡ [] → stmt_faults Width r s ≡ [] → IsFaultlessStmt (checked r) s
    stmt_clean (BeginStmt ss) c w = stmts_clean ss c w
    stmt_clean (IfStmt e b other) c w =
        let cs = parts_empty (expr_faults Constant r e) (body_faults Constant r b ++ else_faults Constant r other) c in
        let ws = parts_empty (expr_faults Width r e) (body_faults Width r b ++ else_faults Width r other) w in
        let cb = parts_empty (body_faults Constant r b) (else_faults Constant r other) cs.1 in
        let wb = parts_empty (body_faults Width r b) (else_faults Width r other) ws.1 in
        (expr_clean e cs.0 ws.0, body_clean b cb.0 wb.0, else_clean other cb.1 wb.1)
    stmt_clean (CaseStmt e arms) c w =
        let cs = parts_empty (expr_faults Constant r e) (arms_faults Constant r arms) c in
        let ws = parts_empty (expr_faults Width r e) (arms_faults Width r arms) w in
        (expr_clean e cs.0 ws.0, arms_clean arms cs.1 ws.1)
    stmt_clean (AssignStmt t op e) c w = assign_clean t e c w

    stmts_clean : (ss : StmtsOf ℕ) → stmts_faults Constant r ss ≡ [] → stmts_faults Width r ss ≡ [] → AreFaultlessStmts (checked r) ss
    stmts_clean NoStmts c w = tt
    stmts_clean (MoreStmts s ss) c w =
        let cs = parts_empty (stmt_faults Constant r s) (stmts_faults Constant r ss) c in
        let ws = parts_empty (stmt_faults Width r s) (stmts_faults Width r ss) w in
        (stmt_clean s cs.0 ws.0, stmts_clean ss cs.1 ws.1)

    body_clean : (b : BodyOf ℕ) → body_faults Constant r b ≡ [] → body_faults Width r b ≡ [] → IsFaultlessBody (checked r) b
    body_clean (StmtBody s) c w = stmt_clean s c w
    body_clean EmptyBody c w = tt

    else_clean : (b : ElseOf ℕ) → else_faults Constant r b ≡ [] → else_faults Width r b ≡ [] → IsFaultlessElse (checked r) b
    else_clean NoElse c w = tt
    else_clean (Else b) c w = body_clean b c w

    arm_clean : (a : ArmOf ℕ) → arm_faults Constant r a ≡ [] → arm_faults Width r a ≡ [] → IsFaultlessArm (checked r) a
    arm_clean (LabelsArm labels b) c w =
        let cs = parts_empty (flat_map (expr_faults Constant r) labels) (body_faults Constant r b) c in
        let ws = parts_empty (flat_map (expr_faults Width r) labels) (body_faults Width r b) w in
        (exprs_clean labels cs.0 ws.0, body_clean b cs.1 ws.1)
    arm_clean (DefaultArm line colon b) c w = body_clean b c w

    arms_clean : (x : ArmsOf ℕ) → arms_faults Constant r x ≡ [] → arms_faults Width r x ≡ [] → AreFaultlessArms (checked r) x
    arms_clean NoArms c w = tt
    arms_clean (MoreArms a rest) c w =
        let cs = parts_empty (arm_faults Constant r a) (arms_faults Constant r rest) c in
        let ws = parts_empty (arm_faults Width r a) (arms_faults Width r rest) w in
        (arm_clean a cs.0 ws.0, arms_clean rest cs.1 ws.1)

module _ (base : Base) (s : Scope) (lawful : is_lawful_scope s ≡ true) where
  readable_lawful : (k : ℕ) → is_lawful_readable (readable_at s k) ≡ true
  readable_lawful k = scope_lawful (record s { declared = k }) lawful

  assigns_clean : (k : ℕ) (xs : List (AssignOf ℕ)) → flat_map (assigned_faults Constant (readable_at s k)) xs ≡ []
      → flat_map (assigned_faults Width (readable_at s k)) xs ≡ [] → AllByRecursion (IsFaultlessAssign (site_from base s k)) xs
  assigns_clean k [] c w = tt
  assigns_clean k (a ∷ xs) c w =
      let r = readable_at s k in
      let cs = parts_empty (assigned_faults Constant r a) (flat_map (assigned_faults Constant r) xs) c in
      let ws = parts_empty (assigned_faults Width r a) (flat_map (assigned_faults Width r) xs) w in
      (assign_clean r (readable_lawful k) a.target a.value cs.0 ws.0, assigns_clean k xs cs.1 ws.1)

  item_clean : (k : ℕ) (item : ItemOf ℕ) → item_faults Constant s k item ≡ [] → item_faults Width s k item ≡ []
      → IsFaultlessItem (site_from base s k) item
  unfolding item_faults
  item_clean k (WiresItem range ids) c w = tt
  item_clean k (DrivenWiresItem range ws) c w = tt
  item_clean k (RegsItem range gs) c w = tt
  item_clean k (LocalparamsItem range vs) c w = tt
  item_clean k (AssignItem assigns) c w = assigns_clean k assigns c w
  item_clean k (AlwaysItem a) c w = body_clean (readable_at s k) (readable_lawful k) a.body c w
  item_clean k (InstanceItem i) c w = tt

  items_clean : (k : ℕ) (items : List (ItemOf ℕ)) → items_faults Constant s k items ≡ [] → items_faults Width s k items ≡ []
      → AllByRecursion (IsFaultlessPlaced base s) (placed s.params k items)
  items_clean k [] c w = tt
  items_clean k (item ∷ items) c w =
      let next = after_item s.params k item in
      let cs = parts_empty (item_faults Constant s k item) (items_faults Constant s next items) c in
      let ws = parts_empty (item_faults Width s k item) (items_faults Width s next items) w in
      (item_clean k item cs.0 ws.0, items_clean next items cs.1 ws.1)

pub instance_clean : (base : Base) (i : ModuleInstance) → is_lawful_scope i.scope ≡ true → const_faults i.tree i.scope ≡ []
    → width_faults i.tree i.scope ≡ [] → AllByRecursion (IsFaultlessPlaced base i.scope) (placed_items i.tree i.scope)
instance_clean base i lawful c w =
    items_clean base i.scope lawful i.scope.declared i.tree.items (items_empty Constant i.tree i.scope c)
    (items_empty Width i.tree i.scope w)
