-- Statements of the trees as statements of code.
use Rattle.std.proofs.Common.{◌≡◌, ℕ, ◌+◌, ◌<◌, ◌≤◌, max, ◌==◌, ◌&&◌, ◌||◌, not, Bool, true, false, List, [], ◌∷◌, ◌++◌, map, length}
use Rattle.std.proofs.Common.{get_or}
use Rattle.std.proofs.Common.{drop, if◌then◌else◌, refl, ap, sym, subst, ◌∙◌, arith}
use Rattle.std.specs.List.{list_any, AllByRecursion}
use Rattle.std.proofs.lemmas.List.{drop_all}
use Rattle.vlog_size.specs.vidi_bits.Number.{IsWidth}
use Rattle.vlog_tree.specs.declared.expr.Expr.{Expr}
use Rattle.vlog_tree.specs.declared.stmt.Stmt.{Stmt}
use Rattle.vlog_tree.specs.declared.stmt.Arm.{Arm}
use Rattle.vlog_tree.specs.Plain.{plain_expr, plain_stmt, plain_stmts, plain_arm, plain_arms}
use Rattle.vlog_tree.specs.Tree.{ExprOf, IfStmt, CaseStmt, BodyOf, StmtBody, EmptyBody, ElseOf, NoElse, Else, StmtOf}
use Rattle.vlog_tree.specs.Tree.{ArmOf, LabelsArm, DefaultArm, ArmsOf, NoArms}
use Rattle.vlog_tree.specs.Tree.{MoreArms, AssignStmt, TargetOf}
use Rattle.vlog_tree.specs.declared.stmt.AssignOp.{AssignOp}
use Rattle.vlog_size.specs.Names.{Readable}
use Rattle.vlog_size.specs.declared.scope.Scope.{Scope}
use Rattle.net_design.specs.declared.act.Act.{Act}
use Rattle.net_design.specs.declared.act.Act.TheVariants.{Set, Read}
use Rattle.net_design.specs.declared.act.Place.{Place}
use Rattle.net_design.specs.declared.act.Guard.{Guard}
use Rattle.net_design.specs.declared.act.Timing.{Timing}
use Rattle.net_design.specs.declared.rhs.Rhs.{Rhs}
use Rattle.net_design.specs.declared.values.Values.{Values}
use Rattle.net_design.specs.Value as values
use Rattle.net_design.specs.Updates as code
use Rattle.net_design.specs.Bits as bits
use Rattle.net_design.specs.Bits.{BitSet, no_bits, known_after}
use Rattle.net_design.proofs.UpdateLaws.{from_here}
use Rattle.net_design.specs.Sized.{IsSizedRhs, IsSizedBlock, AreSizedGuards}
use Rattle.net_code.specs.Found.{guard_writes, guard_adds, guard_reads}
use Rattle.vlog_block.specs.Sources.{names_of}
use Rattle.vlog_block.specs.Value.{value, width_of}
use Rattle.vlog_block.specs.Bits.{reads}
use Rattle.vlog_block.specs.Targets as targets
use Rattle.vlog_block.specs.Updates.{is_zero, assigned, body_updates, else_updates, default_updates, arms_updates}
use Rattle.vlog_block.specs.Updates.{widest, arm_widest, arms_widest, case_width, matches}
use Rattle.vlog_block.specs.Written.{body_writes, default_writes, arms_write, body_adds, default_adds, arms_add}
use Rattle.vlog_block.specs.Written.{body_open, default_open, arms_open, labels_read, target_reads, target_writes, target_adds}
use Rattle.std.proofs.lemmas.List.{append-nil}
use Rattle.std.proofs.Math.Bool.{or_assoc}
use Rattle.net_design.proofs.Rows.{choice}
use Rattle.vlog_size.proofs.vidi_bits_lemmas.Bools.{or_none, and_true}
use Rattle.net_code.specs.Targets.{block_targets, guard_targets}
use Rattle.vlog_block.specs.Naming.{place_names, code_names, guard_names, target_names, body_names, default_names, arms_names}
use Rattle.vlog_block.specs.Faultless.{IsFaultless, IsFaultlessArm, AreFaultlessArms}
use Rattle.vlog_block.specs.Extends.{Doing, Extends, Choosing, Lengthens, doing_block, doing_branch, doing_if, doing_read, doing_stmt}
use Rattle.vlog_block.specs.Extends.{doing_stmts}
use Rattle.vlog_block.specs.Extends.{doing_body, doing_else, doing_default, choosing_arm, choosing_arms, has_label}
use Rattle.vlog_block.specs.Extends.{IsNarrow, AreNarrow, IsNarrowArm, AreNarrowArms}
use Rattle.vlog_block.proofs.Fitting.{faultless_width}
use Rattle.vlog_block.proofs.Extending.{same_bits, known_none, then_, doing_act, extends_both, Same, extends_same, seen_none}
use Rattle.vlog_block.proofs.Extending.{from_none, extends_none}
use Rattle.vlog_block.proofs.Lengthening.{first_of, lengthens_none, lengthens_one, lengthens_both, lengthens_alike, choosing_guard}
use Rattle.vlog_block.proofs.Lengthening.{arm_guard, arms_more}

-- ---- assignments and readings

pub set_does : (r : Readable) (target : TargetOf ℕ) (op : AssignOp) (e : ExprOf ℕ) (places : List Place) (x : Rhs)
    → ((n : ℕ) (v : Values) → code.target_updates places n v ≡ targets.target_updates r v target n)
    → ((v : Values) → values.value x v ≡ assigned r v target e)
    → ((m k : ℕ) → bits.target_writes places m k ≡ target_writes r target m k)
    → ((m k : ℕ) → bits.target_adds places m k ≡ target_adds r target m k)
    → ((m k : ℕ) → bits.target_reads places m k ≡ target_reads r target m k) → ((m k : ℕ) → bits.reads x m k ≡ reads r e m k)
    → place_names places ≡ target_names r target → Same (doing_act (Set places x)) (doing_stmt r (AssignStmt target op e))
set_does r target op e places x updates number writes adds read own names = record {
  updates = λ t v. updates (values.value x v) v ∙ ap (λ n. targets.target_updates r v target n) (number v);
  writes = writes;
  adds = adds;
  reads = λ t known m k.
      ap (λ b. (b || bits.target_reads places m k) && not (known m k)) (own m k)
      ∙ ap (λ b. (reads r e m k || b) && not (known m k)) (read m k);
  names = names;
}

pub read_does : (r : Readable) (e : ExprOf ℕ) (x : Rhs) → ((m k : ℕ) → bits.reads x m k ≡ reads r e m k)
    → Same (doing_act (Read x)) (doing_read r e)
read_does r e x own = record {
  updates = λ t v. refl;
  writes = λ m k. refl;
  adds = λ m k. refl;
  reads = λ t known m k. ap (λ b. b && not (known m k)) (own m k);
  names = refl;
}

-- ---- one condition

lone_guard : (g : Guard) → guard_names (g ∷ []) ≡ code_names g.body
unfolding guard_targets
lone_guard g = ap place_names (append-nil (block_targets g.body))

pub one_guard : (r : Readable) (c : ExprOf ℕ) (g : Guard) (others : List Act)
    → ((v : Values) → values.value g.condition v ≡ value r v c (width_of r c)) → ((m k : ℕ) → bits.reads g.condition m k ≡ reads r c m k)
    → Same (doing_branch (g ∷ []) others) (doing_if r c g.body others)
one_guard r c g others number read = record {
  updates = λ t v. ap (λ n. if n == 0 then code.block_updates t others v else code.block_updates t g.body v) (number v);
  writes = λ m k. ap (λ b. b || bits.block_writes others m k) (sym (or_none (bits.block_writes g.body m k)));
  adds = λ m k. ap (λ b. b && bits.block_adds others m k) (sym (and_true (bits.block_adds g.body m k)));
  reads = λ t known m k.
      let n = not (known m k) in
      let body = bits.block_open_reads t g.body known m k in
      let rest = bits.block_open_reads t others known m k in
      ap (λ b. ((b && n) || (body || false)) || rest) (read m k)
      ∙ ap (λ b. ((reads r c m k && n) || b) || rest) (sym (or_none body))
      ∙ or_assoc (reads r c m k && n) body rest;
  names = ap (λ ns. ns ++ code_names others) (lone_guard g);
}

pub if_does : (r : Readable) (c : ExprOf ℕ) (b : BodyOf ℕ) (other : ElseOf ℕ) (acts others : List Act)
    → Same (doing_block acts) (doing_body r b) → Same (doing_block others) (doing_else r other)
    → Same (doing_if r c acts others) (doing_stmt r (IfStmt c b other))
if_does r c b other acts others x y = record {
  updates = λ t v. choice (is_zero r v c) (code.block_updates t others v) (else_updates r t other v) (code.block_updates t acts v)
      (body_updates r t b v) (y.updates t v) (x.updates t v);
  writes = λ m k. ap (λ z. z || bits.block_writes others m k) (x.writes m k) ∙ ap (λ z. body_writes r b m k || z) (y.writes m k);
  adds = λ m k. ap (λ z. z && bits.block_adds others m k) (x.adds m k) ∙ ap (λ z. body_adds r b m k && z) (y.adds m k);
  reads = λ t known m k.
      let c = reads r c m k && not (known m k) in
      ap (λ z. c || (z || bits.block_open_reads t others known m k)) (x.reads t known m k)
      ∙ ap (λ z. c || (body_open r t b known m k || z)) (y.reads t known m k);
  names = ap (λ ns. ns ++ code_names others) x.names ∙ ap (λ ns. body_names r b ++ ns) y.names;
}

-- ---- `case`

branch_updates : (r : Readable) (subject : ExprOf ℕ) (arms : ArmsOf ℕ) (guards : List Guard) (others : List Act)
    → Lengthens (choosing_arms r subject (case_width r subject arms) arms) [] guards → Same (doing_block others) (doing_default r arms)
    → (t : Timing) (v : Values) → code.guard_updates t guards (code.block_updates t others v) v
    ≡ arms_updates r t arms (case_width r subject arms) (value r v subject (case_width r subject arms)) (default_updates r t arms v) v
branch_updates r subject arms guards others g o t v =
    g.updates t (code.block_updates t others v) v
    ∙ ap (λ us. arms_updates r t arms (case_width r subject arms) (value r v subject (case_width r subject arms)) us v) (o.updates t v)

branch_writes : (r : Readable) (subject : ExprOf ℕ) (arms : ArmsOf ℕ) (guards : List Guard) (others : List Act)
    → Lengthens (choosing_arms r subject (case_width r subject arms) arms) [] guards → Same (doing_block others) (doing_default r arms)
    → (m k : ℕ) → (guard_writes guards m k || bits.block_writes others m k) ≡ (arms_write r arms m k || default_writes r arms m k)
branch_writes r subject arms guards others g o m k =
    ap (λ z. z || bits.block_writes others m k) (g.writes m k) ∙ ap (λ z. arms_write r arms m k || z) (o.writes m k)

branch_adds : (r : Readable) (subject : ExprOf ℕ) (arms : ArmsOf ℕ) (guards : List Guard) (others : List Act)
    → Lengthens (choosing_arms r subject (case_width r subject arms) arms) [] guards → Same (doing_block others) (doing_default r arms)
    → (m k : ℕ) → (guard_adds guards m k && bits.block_adds others m k) ≡ (arms_add r arms m k && default_adds r arms m k)
branch_adds r subject arms guards others g o m k =
    ap (λ z. z && bits.block_adds others m k) (g.adds m k) ∙ ap (λ z. arms_add r arms m k && z) (o.adds m k)

-- what the guards and `otherwise` read, where it is known whether there is a label
branch_reads : (r : Readable) (subject : ExprOf ℕ) (arms : ArmsOf ℕ) (guards : List Guard) (others : List Act) (h : Bool)
    → has_label arms ≡ h → Lengthens (choosing_arms r subject (case_width r subject arms) arms) [] guards
    → Same (doing_block others) (doing_default r arms) → (t : Timing) (known : BitSet) (m k : ℕ)
    → (guard_reads t guards known m k || bits.block_open_reads t others known m k)
    ≡ ((((h && reads r subject m k) || labels_read r arms m k) && not (known m k))
    || (arms_open r t arms known m k || default_open r t arms known m k))
branch_reads r subject arms guards others h is g o t known m k =
    let read = ((h && reads r subject m k) || labels_read r arms m k) && not (known m k) in
    ap (λ z. z || bits.block_open_reads t others known m k) (g.reads t known m k)
    ∙ ap
    (λ z. ((((z && reads r subject m k) || labels_read r arms m k) && not (known m k)) || arms_open r t arms known m k)
    || bits.block_open_reads t others known m k) is
    ∙ ap (λ z. (read || arms_open r t arms known m k) || z) (o.reads t known m k)
    ∙ or_assoc read (arms_open r t arms known m k) (default_open r t arms known m k)

no_guards : guard_names [] ≡ []
unfolding guard_targets
no_guards = refl

branch_names : (r : Readable) (subject : ExprOf ℕ) (arms : ArmsOf ℕ) (guards : List Guard) (others : List Act)
    → Lengthens (choosing_arms r subject (case_width r subject arms) arms) [] guards → Same (doing_block others) (doing_default r arms)
    → guard_names guards ++ code_names others ≡ arms_names r arms ++ default_names r arms
branch_names r subject arms guards others g o =
    ap (λ ns. ns ++ code_names others) (g.names ∙ ap (λ ns. ns ++ arms_names r arms) no_guards)
    ∙ ap (λ ns. arms_names r arms ++ ns) o.names

pub case_does : (r : Readable) (subject : ExprOf ℕ) (arms : ArmsOf ℕ) (guards : List Guard) (others : List Act)
    → has_label arms ≡ true → Lengthens (choosing_arms r subject (case_width r subject arms) arms) [] guards
    → Extends (doing_default r arms) [] others → Same (doing_branch guards others) (doing_stmt r (CaseStmt subject arms))
case_does r subject arms guards others is g x =
    let o : Same (doing_block others) (doing_default r arms) = from_none (doing_default r arms) others x in
    record {
      updates = λ t v. branch_updates r subject arms guards others g o t v;
      writes = λ m k. branch_writes r subject arms guards others g o m k;
      adds = λ m k. branch_adds r subject arms guards others g o m k;
      reads = λ t known m k. branch_reads r subject arms guards others true is g o t known m k;
      names = branch_names r subject arms guards others g o;
    }

read_then : (x y n a : Bool) → ((x && n) || ((y && n) || a)) ≡ (((x || y) && n) || a)
read_then true y true a = refl
read_then true true false a = refl
read_then true false false a = refl
read_then false y n a = refl

-- without a label the subject is read before
pub unlabelled_does : (r : Readable) (subject : ExprOf ℕ) (arms : ArmsOf ℕ) (guards : List Guard) (others : List Act)
    → has_label arms ≡ false → Lengthens (choosing_arms r subject (case_width r subject arms) arms) [] guards
    → Extends (doing_default r arms) [] others
    → Same (then_ (doing_read r subject) (doing_branch guards others)) (doing_stmt r (CaseStmt subject arms))
unlabelled_does r subject arms guards others is g x =
    let o : Same (doing_block others) (doing_default r arms) = from_none (doing_default r arms) others x in
    record {
      updates = λ t v.
          ap (λ (u : Values). code.guard_updates t guards (code.block_updates t others u) u) (seen_none t v)
          ∙ branch_updates r subject arms guards others g o t v;
      writes = λ m k. branch_writes r subject arms guards others g o m k;
      adds = λ m k. branch_adds r subject arms guards others g o m k;
      reads = λ t known m k.
          let s = reads r subject m k in
          let n = not (known m k) in
          ap (λ (q : BitSet). (s && n) || (guard_reads t guards q m k || bits.block_open_reads t others q m k))
          (same_bits (known_after t known no_bits) known (known_none t known))
          ∙ ap (λ z. (s && n) || z) (branch_reads r subject arms guards others false is g o t known m k)
          ∙ read_then s (labels_read r arms m k) n (arms_open r t arms known m k || default_open r t arms known m k);
      names = branch_names r subject arms guards others g o;
    }

-- ---- lists, a part at a time

pub stmts_step : (r : Readable) (xs : List Stmt) (i : ℕ) (x : Stmt) (old mid end : List Act) → i < length xs → x ≡ get_or xs i x
    → Extends (doing_stmt r (plain_stmt x)) old mid → Extends (doing_stmts r (plain_stmts (drop (i + 1) xs))) mid end
    → Extends (doing_stmts r (plain_stmts (drop i xs))) old end
stmts_step r xs i x old mid end l e h k =
    subst (λ (ys : List Stmt). Extends (doing_stmts r (plain_stmts ys)) old end) (sym (from_here xs i x l e))
    (extends_both (doing_stmt r (plain_stmt x)) (doing_stmts r (plain_stmts (drop (i + 1) xs))) old mid end h k)

pub arms_step : (r : Readable) (subject : ExprOf ℕ) (w : ℕ) (xs : List Arm) (i : ℕ) (x : Arm) (old mid end : List Guard) → i < length xs
    → x ≡ get_or xs i x → Lengthens (choosing_arm r subject w (plain_arm x)) old mid
    → Lengthens (choosing_arms r subject w (plain_arms (drop (i + 1) xs))) mid end
    → Lengthens (choosing_arms r subject w (plain_arms (drop i xs))) old end
arms_step r subject w xs i x old mid end l e h k =
    let a = choosing_arm r subject w (plain_arm x) in
    let rest = choosing_arms r subject w (plain_arms (drop (i + 1) xs)) in
    subst (λ (ys : List Arm). Lengthens (choosing_arms r subject w (plain_arms ys)) old end) (sym (from_here xs i x l e))
    (lengthens_alike (first_of a rest) (choosing_arms r subject w (plain_arms (x ∷ drop (i + 1) xs))) old end
    (arms_more r subject w (plain_arm x) (plain_arms (drop (i + 1) xs))) (lengthens_both a rest old mid end h k))

-- ---- widths

pub first_faultless : (r : Readable) (xs : List Expr) (i : ℕ) (x : Expr) → i < length xs → x ≡ get_or xs i x
    → AllByRecursion (λ (e : ExprOf ℕ). IsFaultless r e) (map plain_expr (drop i xs)) → IsFaultless r (plain_expr x)
first_faultless r xs i x l e h =
    let whole = subst (λ (ys : List Expr). AllByRecursion (λ (y : ExprOf ℕ). IsFaultless r y) (map plain_expr ys))
    (from_here xs i x l e) h in
    whole.0

narrow_labels : (r : Readable) (es : List (ExprOf ℕ)) (x w : ℕ) → AllByRecursion (λ (e : ExprOf ℕ). IsFaultless r e) es
    → widest r es x ≤ w → AreNarrow r w es × (x ≤ w)
narrow_labels r [] x w f h = (tt, h)
narrow_labels r (e ∷ es) x w f h =
    let rest = narrow_labels r es (max x (width_of r e)) w f.1 h in
    let most : max x (width_of r e) ≤ w = rest.1 in
    (((f.0, omega (arith, most)), rest.0), omega (arith, most))

narrow_arm : (r : Readable) (a : ArmOf ℕ) (x w : ℕ) → IsFaultlessArm r a → arm_widest r a x ≤ w → IsNarrowArm r w a × (x ≤ w)
narrow_arm r (LabelsArm labels b) x w f h = let own = narrow_labels r labels x w f.0 h in ((own.0, f.1), own.1)
narrow_arm r (DefaultArm line colon b) x w f h = (f, h)

pub narrow_arms : (r : Readable) (arms : ArmsOf ℕ) (x w : ℕ) → AreFaultlessArms r arms → arms_widest r arms x ≤ w
    → AreNarrowArms r w arms × (x ≤ w)
narrow_arms r NoArms x w f h = (tt, h)
narrow_arms r (MoreArms a rest) x w f h =
    let others = narrow_arms r rest (arm_widest r a x) w f.1 h in
    let own = narrow_arm r a x w f.0 others.1 in
    ((own.0, others.0), own.1)

few_labels : (s : Scope) (es : List (ExprOf ℕ)) (x : ℕ) → AllByRecursion (λ (e : ExprOf ℕ). IsFaultless (names_of s) e) es → x ≤ 128
    → widest (names_of s) es x ≤ 128
few_labels s [] x f h = h
few_labels s (e ∷ es) x f h =
    let own : IsWidth (width_of (names_of s) e) = faultless_width s e f.0 in
    let most : width_of (names_of s) e ≤ 128 = own.1 in
    few_labels s es (max x (width_of (names_of s) e)) f.1 (omega (arith, most, h))

few_arm : (s : Scope) (a : ArmOf ℕ) (x : ℕ) → IsFaultlessArm (names_of s) a → x ≤ 128 → arm_widest (names_of s) a x ≤ 128
few_arm s (LabelsArm labels b) x f h = few_labels s labels x f.0 h
few_arm s (DefaultArm line colon b) x f h = h

few_arms : (s : Scope) (arms : ArmsOf ℕ) (x : ℕ) → AreFaultlessArms (names_of s) arms → x ≤ 128 → arms_widest (names_of s) arms x ≤ 128
few_arms s NoArms x f h = h
few_arms s (MoreArms a rest) x f h = few_arms s rest (arm_widest (names_of s) a x) f.1 (few_arm s a x f.0 h)

-- the width at which a `case` compares
pub case_fits : (s : Scope) (subject : ExprOf ℕ) (arms : ArmsOf ℕ) → IsFaultless (names_of s) subject → AreFaultlessArms (names_of s) arms
    → IsWidth (case_width (names_of s) subject arms)
case_fits s subject arms f h =
    let own : IsWidth (width_of (names_of s) subject) = faultless_width s subject f in
    let least : 1 ≤ width_of (names_of s) subject = own.0 in
    let all = narrow_arms (names_of s) arms (width_of (names_of s) subject) (case_width (names_of s) subject arms) h (omega arith) in
    let more : width_of (names_of s) subject ≤ case_width (names_of s) subject arms = all.1 in
    (omega (arith, least, more), few_arms s arms (width_of (names_of s) subject) h own.1)

pub case_narrow : (s : Scope) (subject : ExprOf ℕ) (arms : ArmsOf ℕ) → IsFaultless (names_of s) subject → AreFaultlessArms (names_of s) arms
    → IsNarrow (names_of s) (case_width (names_of s) subject arms) subject
    × AreNarrowArms (names_of s) (case_width (names_of s) subject arms) arms
case_narrow s subject arms f h =
    let all = narrow_arms (names_of s) arms (width_of (names_of s) subject) (case_width (names_of s) subject arms) h (omega arith) in
    ((f, all.1), all.0)

-- ---- what a function of the code made of a statement

pub sized_none : (acts : List Act) → acts ≡ [] → IsSizedBlock acts
sized_none acts e = subst (λ (xs : List Act). IsSizedBlock xs) (sym e) tt

pub sized_made : (does : Doing) (first acts : List Act) → first ≡ [] → Extends does first acts → IsSizedBlock acts
sized_made does first acts e x = x.sized (sized_none first e)

pub guards_made : (does : Choosing) (first guards : List Guard) → first ≡ [] → Lengthens does first guards → AreSizedGuards guards
guards_made does first guards e x = x.sized (subst (λ (xs : List Guard). AreSizedGuards xs) (sym e) tt)

pub stmt_made : (r : Readable) (s s' : StmtOf ℕ) (old new : List Act) → s ≡ s' → Extends (doing_stmt r s') old new
    → Extends (doing_stmt r s) old new
stmt_made r s s' old new e x = subst (λ (y : StmtOf ℕ). Extends (doing_stmt r y) old new) (sym e) x

pub body_made : (r : Readable) (b : BodyOf ℕ) (s : StmtOf ℕ) (old new : List Act) → b ≡ StmtBody s → Extends (doing_stmt r s) old new
    → Extends (doing_body r b) old new
body_made r b s old new e x = subst (λ (y : BodyOf ℕ). Extends (doing_body r y) old new) (sym e) x

pub no_body : (r : Readable) (b : BodyOf ℕ) (old : List Act) → b ≡ EmptyBody → Extends (doing_body r b) old old
no_body r b old e = subst (λ (y : BodyOf ℕ). Extends (doing_body r y) old old) (sym e) (extends_none old)

pub if_made : (r : Readable) (s : StmtOf ℕ) (c : ExprOf ℕ) (b : BodyOf ℕ) (other : ElseOf ℕ)
    (first acts second others old new : List Act) → s ≡ IfStmt c b other → first ≡ [] → Extends (doing_body r b) first acts → second ≡ []
    → Extends (doing_else r other) second others → Extends (doing_if r c acts others) old new → Extends (doing_stmt r s) old new
if_made r s c b other first acts second others old new e f x g y z =
    let own : Extends (doing_body r b) [] acts = subst (λ (xs : List Act). Extends (doing_body r b) xs acts) f x in
    let rest : Extends (doing_else r other) [] others = subst (λ (xs : List Act). Extends (doing_else r other) xs others) g y in
    stmt_made r s (IfStmt c b other) old new e (extends_same (doing_if r c acts others) (doing_stmt r (IfStmt c b other)) old new
    (if_does r c b other acts others (from_none (doing_body r b) acts own) (from_none (doing_else r other) others rest)) z)

pub no_else : (r : Readable) (old : List Act) → Extends (doing_else r NoElse) old old
no_else r old = extends_none old

pub else_made : (r : Readable) (b : BodyOf ℕ) (old new : List Act) → Extends (doing_body r b) old new
    → Extends (doing_else r (Else b)) old new
else_made r b old new x = x

-- the guards and what is done otherwise, made from empty lists
pub own_guards : (r : Readable) (subject : ExprOf ℕ) (arms : ArmsOf ℕ) (w : ℕ) (first guards : List Guard)
    → w ≡ case_width r subject arms → first ≡ [] → Lengthens (choosing_arms r subject w arms) first guards
    → Lengthens (choosing_arms r subject (case_width r subject arms) arms) [] guards
own_guards r subject arms w first guards is f x =
    subst (λ (n : ℕ). Lengthens (choosing_arms r subject n arms) [] guards) is
    (subst (λ (xs : List Guard). Lengthens (choosing_arms r subject w arms) xs guards) f x)

pub own_default : (r : Readable) (arms : ArmsOf ℕ) (second others : List Act) → second ≡ []
    → Extends (doing_default r arms) second others → Extends (doing_default r arms) [] others
own_default r arms second others g y = subst (λ (xs : List Act). Extends (doing_default r arms) xs others) g y

pub case_made : (r : Readable) (subject : ExprOf ℕ) (arms : ArmsOf ℕ) (guards : List Guard) (others old new : List Act)
    → Lengthens (choosing_arms r subject (case_width r subject arms) arms) [] guards → Extends (doing_default r arms) [] others
    → has_label arms ≡ true → Extends (doing_branch guards others) old new → Extends (doing_stmt r (CaseStmt subject arms)) old new
case_made r subject arms guards others old new x y h z =
    extends_same (doing_branch guards others) (doing_stmt r (CaseStmt subject arms)) old new
    (case_does r subject arms guards others h x y) z

pub unlabelled_made : (r : Readable) (subject : ExprOf ℕ) (arms : ArmsOf ℕ) (guards : List Guard) (others old mid new : List Act)
    → Lengthens (choosing_arms r subject (case_width r subject arms) arms) [] guards → Extends (doing_default r arms) [] others
    → has_label arms ≡ false → Extends (doing_read r subject) old mid → Extends (doing_branch guards others) mid new
    → Extends (doing_stmt r (CaseStmt subject arms)) old new
unlabelled_made r subject arms guards others old mid new x y h p z =
    extends_same (then_ (doing_read r subject) (doing_branch guards others)) (doing_stmt r (CaseStmt subject arms)) old new
    (unlabelled_does r subject arms guards others h x y)
    (extends_both (doing_read r subject) (doing_branch guards others) old mid new p z)

-- the width of a comparison is that of the `case`
module _ (s : Scope) (subject : ExprOf ℕ) (arms : ArmsOf ℕ) (w : ℕ) (is : w ≡ case_width (names_of s) subject arms)
    (f : IsFaultless (names_of s) subject) (h : AreFaultlessArms (names_of s) arms) where
  pub subject_narrow : IsNarrow (names_of s) w subject
  subject_narrow = subst (λ (n : ℕ). IsNarrow (names_of s) n subject) (sym is) (case_narrow s subject arms f h).0

  pub arms_narrow : AreNarrowArms (names_of s) w arms
  arms_narrow = subst (λ (n : ℕ). AreNarrowArms (names_of s) n arms) (sym is) (case_narrow s subject arms f h).1

  pub width_fits : IsWidth w
  width_fits = subst (λ (n : ℕ). IsWidth n) (sym is) (case_fits s subject arms f h)

pub guard_made : (r : Readable) (subject : ExprOf ℕ) (w : ℕ) (a : ArmOf ℕ) (labels : List (ExprOf ℕ)) (b : BodyOf ℕ) (x y : Rhs)
    (first acts : List Act) (old new : List Guard) → a ≡ LabelsArm labels b
    → new ≡ old ++ record { condition = x; body = acts } ∷ [] → x ≡ y
    → ((v : Values) → not (values.value y v == 0) ≡ matches r v labels w (value r v subject w))
    → ((m k : ℕ) → bits.reads y m k ≡ list_any (λ (e : ExprOf ℕ). reads r subject m k || reads r e m k) labels) → IsSizedRhs y
    → first ≡ [] → Extends (doing_body r b) first acts → Lengthens (choosing_arm r subject w a) old new
guard_made r subject w a labels b x y first acts old new e pushed is test read sized f z =
    let g : Guard = record { condition = x; body = acts } in
    let own : Extends (doing_body r b) [] acts = subst (λ (xs : List Act). Extends (doing_body r b) xs acts) f z in
    let one : Lengthens (choosing_guard g) old (old ++ g ∷ []) =
    lengthens_one old g (subst (λ (c : Rhs). IsSizedRhs c) (sym is) sized) (own.sized tt) in
    let tested = λ (v : Values). ap (λ (c : Rhs). not (values.value c v == 0)) is ∙ test v in
    let found = λ (m k : ℕ). ap (λ (c : Rhs). bits.reads c m k) is ∙ read m k in
    subst (λ (xs : List Guard). Lengthens (choosing_arm r subject w a) old xs) (sym pushed)
    (subst (λ (d : ArmOf ℕ). Lengthens (choosing_arm r subject w d) old (old ++ g ∷ [])) (sym e)
    (lengthens_alike (choosing_guard g) (choosing_arm r subject w (LabelsArm labels b)) old (old ++ g ∷ [])
    (arm_guard r subject w labels b g tested found (from_none (doing_body r b) acts own)) one))

pub no_guard : (r : Readable) (subject : ExprOf ℕ) (w : ℕ) (a : ArmOf ℕ) (line : ℕ) (colon : Bool) (b : BodyOf ℕ) (old : List Guard)
    → a ≡ DefaultArm line colon b → Lengthens (choosing_arm r subject w a) old old
no_guard r subject w a line colon b old e =
    subst (λ (d : ArmOf ℕ). Lengthens (choosing_arm r subject w d) old old) (sym e) (lengthens_none old)

pub default_here : (r : Readable) (xs : List Arm) (i : ℕ) (x : Arm) (line : ℕ) (colon : Bool) (b : BodyOf ℕ) (old new : List Act)
    → i < length xs → x ≡ get_or xs i x → plain_arm x ≡ DefaultArm line colon b → Extends (doing_body r b) old new
    → Extends (doing_default r (plain_arms (drop i xs))) old new
default_here r xs i x line colon b old new l is e h =
    let rest = plain_arms (drop (i + 1) xs) in
    subst (λ (ys : List Arm). Extends (doing_default r (plain_arms ys)) old new) (sym (from_here xs i x l is))
    (subst (λ (a : ArmOf ℕ). Extends (doing_default r (MoreArms a rest)) old new) (sym e) h)

pub default_later : (r : Readable) (xs : List Arm) (i : ℕ) (x : Arm) (labels : List (ExprOf ℕ)) (b : BodyOf ℕ) (old new : List Act)
    → i < length xs → x ≡ get_or xs i x → plain_arm x ≡ LabelsArm labels b
    → Extends (doing_default r (plain_arms (drop (i + 1) xs))) old new → Extends (doing_default r (plain_arms (drop i xs))) old new
default_later r xs i x labels b old new l is e h =
    let rest = plain_arms (drop (i + 1) xs) in
    subst (λ (ys : List Arm). Extends (doing_default r (plain_arms ys)) old new) (sym (from_here xs i x l is))
    (subst (λ (a : ArmOf ℕ). Extends (doing_default r (MoreArms a rest)) old new) (sym e) h)

-- ---- at the end of a list

pub stmts_end : (r : Readable) (xs : List Stmt) (i : ℕ) (old : List Act) → length xs ≤ i
    → Extends (doing_stmts r (plain_stmts (drop i xs))) old old
stmts_end r xs i old l =
    subst (λ (ys : List Stmt). Extends (doing_stmts r (plain_stmts ys)) old old) (sym (drop_all i xs l)) (extends_none old)

pub arms_end : (r : Readable) (subject : ExprOf ℕ) (w : ℕ) (xs : List Arm) (i : ℕ) (old : List Guard) → length xs ≤ i
    → Lengthens (choosing_arms r subject w (plain_arms (drop i xs))) old old
arms_end r subject w xs i old l =
    subst (λ (ys : List Arm). Lengthens (choosing_arms r subject w (plain_arms ys)) old old) (sym (drop_all i xs l)) (lengthens_none old)

pub default_end : (r : Readable) (xs : List Arm) (i : ℕ) (old : List Act) → length xs ≤ i
    → Extends (doing_default r (plain_arms (drop i xs))) old old
default_end r xs i old l =
    subst (λ (ys : List Arm). Extends (doing_default r (plain_arms ys)) old old) (sym (drop_all i xs l)) (extends_none old)

pub case_seen : (s : StmtOf ℕ) (subject : ExprOf ℕ) (rows arms : List Arm) → s ≡ CaseStmt subject (plain_arms arms) → rows ≡ arms
    → s ≡ CaseStmt subject (plain_arms rows)
case_seen s subject rows arms e is = e ∙ ap (λ (xs : List Arm). CaseStmt subject (plain_arms xs)) (sym is)
