use Rattle.std.proofs.Common.{rules, ◌≡◌, ℕ, List, drop, map, ap, sym, subst, ◌∙◌}
use Rattle.std.proofs.lemmas.Result.{on_ok_weaker}
use Rattle.vlog_tree.specs.Tree.{StmtOf, AssignStmt, BeginStmt, IfStmt, CaseStmt, NoElse, Else, LabelsArm, DefaultArm}
use Rattle.vlog_tree.specs.Plain.{plain_expr, plain_target, plain_stmt, plain_stmts, plain_body, plain_arm, plain_arms}
use Rattle.vlog_tree.specs.declared.stmt.Stmt.{Stmt}
use Rattle.vlog_tree.specs.declared.stmt.Arm.{Arm}
use Rattle.net_design.proofs.UpdateLaws.{from_here}
use Rattle.vlog_block.specs.Sources.{names_of}
use Rattle.vlog_block.specs.Faultless.{IsFaultlessStmt, AreFaultlessStmts, AreFaultlessArms}
use Rattle.vlog_block.specs.Extends.{Extends, doing_body, doing_default}
use Rattle.vlog_block.specs.Extends.{AreNarrowArms}
use Rattle.vlog_block.proofs.Statements.{stmts_step, stmts_end, arms_step, arms_end, default_here, default_later, default_end, sized_none}
use Rattle.vlog_block.proofs.Statements.{sized_made, stmt_made, if_made, no_else, else_made}
use Rattle.vlog_block.proofs.Statements.{guard_made, case_seen, own_guards, own_default}
use Rattle.vlog_block.proofs.block.+statements.Goals as goal

-- ---- a list of statements

pub push_stmts-loop-stmt-init : goal.push_stmts-loop-stmt-init
push_stmts-loop-stmt-init t c = record { more = λ end h. h; faultless = c.requires }

pub push_stmts-loop-stmt-preserved : goal.push_stmts-loop-stmt-preserved
push_stmts-loop-stmt-preserved t c =
    let r = names_of c.args.scope.now in
    let l = c.loop-stmt in
    let xs = c.args.stmts.now in
    let x = c.stmt-item.result in
    record {
      more = λ end h. l.invariant.more end
          (stmts_step r xs l.stmt-index x l.out c.push_stmt.new.out end c.loop-stmt-test.true c.stmt-item.is c.in_ok-push_stmt.ensures h);
      faultless = (subst (λ (ys : List Stmt). AreFaultlessStmts r (plain_stmts ys))
          (from_here xs l.stmt-index x c.loop-stmt-test.true c.stmt-item.is) l.invariant.faultless).1;
    }

pub push_stmts-returns : goal.push_stmts-returns
push_stmts-returns t c =
    c.loop-stmt.invariant.more c.loop-stmt.out
    (stmts_end (names_of c.args.scope.now) c.args.stmts.now c.loop-stmt.stmt-index c.loop-stmt.out c.loop-stmt-test.false)

-- ---- a statement

pub push_stmt-returns-in-Begin : goal.push_stmt-returns-in-Begin
push_stmt-returns-in-Begin t c =
    let r = names_of c.args.scope.now in
    let s = plain_stmt c.args.stmt.now in
    let e : s ≡ BeginStmt (plain_stmts c.as_slice.result.now) =
    c.see_begin.ensures c.args.stmt.now c.in-Begin.is ∙ ap (λ (ss : List Stmt). BeginStmt (plain_stmts ss)) (sym c.as_slice.ensures) in
    on_ok_weaker c.push_stmts.result
    (λ x. stmt_made r s (BeginStmt (plain_stmts c.as_slice.result.now)) c.args.out.now c.push_stmts.new.out e x) c.push_stmts.ensures

pub push_stmt-push_if-requires-clause-then_acts : goal.push_stmt-push_if-requires-clause-then_acts
push_stmt-push_if-requires-clause-then_acts t c =
    sized_made (doing_body (names_of c.args.scope.now) (plain_body c.in-If.then_body)) c.new-then_acts.result c.push_body.new.out
    c.new-then_acts.ensures c.in_ok-push_body-in-If.ensures

pub push_stmt-push_if-requires-clause-else_acts : goal.push_stmt-push_if-requires-clause-else_acts
push_stmt-push_if-requires-clause-else_acts t c = sized_none c.new-else_acts.result c.new-else_acts.ensures

pub push_stmt-push_if-requires-in-Some-clause-then_acts : goal.push_stmt-push_if-requires-in-Some-clause-then_acts
push_stmt-push_if-requires-in-Some-clause-then_acts t c =
    sized_made (doing_body (names_of c.args.scope.now) (plain_body c.in-If.then_body)) c.new-then_acts.result c.push_body.new.out
    c.new-then_acts.ensures c.in_ok-push_body-in-If.ensures

pub push_stmt-push_if-requires-in-Some-clause-else_acts : goal.push_stmt-push_if-requires-in-Some-clause-else_acts
push_stmt-push_if-requires-in-Some-clause-else_acts t c =
    sized_made (doing_body (names_of c.args.scope.now) (plain_body c.in-Some.body)) c.new-else_acts.result
    c.push_body-in-Some.new.out c.new-else_acts.ensures c.in_ok-push_body-in-Some.ensures

pub push_stmt-returns-in-None : goal.push_stmt-returns-in-None
push_stmt-returns-in-None t c =
    let r = names_of c.args.scope.now in
    let condition = plain_expr c.in-If.condition in
    let b = plain_body c.in-If.then_body in
    let e : plain_stmt c.args.stmt.now ≡ IfStmt condition b NoElse = search rules in
    let others = c.new-else_acts.result in
    on_ok_weaker c.push_if.result
    (λ x. if_made r (plain_stmt c.args.stmt.now) condition b NoElse c.new-then_acts.result c.push_body.new.out others others
    c.args.out.now c.push_if.new.out e c.new-then_acts.ensures c.in_ok-push_body-in-If.ensures c.new-else_acts.ensures
    (no_else r others) x) c.push_if.ensures

pub push_stmt-returns-in_ok-push_body-in-Some : goal.push_stmt-returns-in_ok-push_body-in-Some
push_stmt-returns-in_ok-push_body-in-Some t c =
    let r = names_of c.args.scope.now in
    let condition = plain_expr c.in-If.condition in
    let b = plain_body c.in-If.then_body in
    let other = plain_body c.in-Some.body in
    let e : plain_stmt c.args.stmt.now ≡ IfStmt condition b (Else other) = search rules in
    on_ok_weaker c.push_if-in-Some.result
    (λ x. if_made r (plain_stmt c.args.stmt.now) condition b (Else other) c.new-then_acts.result c.push_body.new.out
    c.new-else_acts.result c.push_body-in-Some.new.out c.args.out.now c.push_if-in-Some.new.out e c.new-then_acts.ensures
    c.in_ok-push_body-in-If.ensures c.new-else_acts.ensures
    (else_made r other c.new-else_acts.result c.push_body-in-Some.new.out c.in_ok-push_body-in-Some.ensures) x)
    c.push_if-in-Some.ensures

pub push_stmt-returns-in-Assign : goal.push_stmt-returns-in-Assign
push_stmt-returns-in-Assign t c =
    let r = names_of c.args.scope.now in
    let target = plain_target c.in-Assign.target in
    let value = plain_expr c.in-Assign.value in
    let e : plain_stmt c.args.stmt.now ≡ AssignStmt target c.in-Assign.op value = search rules in
    on_ok_weaker c.push_set.result
    (λ x. stmt_made r (plain_stmt c.args.stmt.now) (AssignStmt target c.in-Assign.op value) c.args.out.now c.push_set.new.out e
    (x c.in-Assign.op)) c.push_set.ensures

-- ---- a `case`

pub push_stmt-case_width-w-requires-clause-subject : goal.push_stmt-case_width-w-requires-clause-subject
push_stmt-case_width-w-requires-clause-subject t c =
    let r = names_of c.args.scope.now in
    let subject = plain_expr c.in-Case.expression in
    let e : plain_stmt c.args.stmt.now ≡ CaseStmt subject (plain_arms c.as_slice-rows.result.now) =
    case_seen (plain_stmt c.args.stmt.now) subject c.as_slice-rows.result.now c.in-Case.arms
    (c.see_case.ensures c.args.stmt.now c.in-Case.is) c.as_slice-rows.ensures in
    (subst (λ (s : StmtOf ℕ). IsFaultlessStmt r s) e c.requires).0

pub push_stmt-case_width-w-requires-clause-arms : goal.push_stmt-case_width-w-requires-clause-arms
push_stmt-case_width-w-requires-clause-arms t c =
    let r = names_of c.args.scope.now in
    let subject = plain_expr c.in-Case.expression in
    let e : plain_stmt c.args.stmt.now ≡ CaseStmt subject (plain_arms c.as_slice-rows.result.now) =
    case_seen (plain_stmt c.args.stmt.now) subject c.as_slice-rows.result.now c.in-Case.arms
    (c.see_case.ensures c.args.stmt.now c.in-Case.is) c.as_slice-rows.ensures in
    (subst (λ (s : StmtOf ℕ). IsFaultlessStmt r s) e c.requires).1

pub push_stmt-push_choice-requires-clause-subject : goal.push_stmt-push_choice-requires-clause-subject
push_stmt-push_choice-requires-clause-subject t c =
    let r = names_of c.args.scope.now in
    let subject = plain_expr c.in-Case.expression in
    let e : plain_stmt c.args.stmt.now ≡ CaseStmt subject (plain_arms c.as_slice-rows.result.now) =
    case_seen (plain_stmt c.args.stmt.now) subject c.as_slice-rows.result.now c.in-Case.arms
    (c.see_case.ensures c.args.stmt.now c.in-Case.is) c.as_slice-rows.ensures in
    (subst (λ (s : StmtOf ℕ). IsFaultlessStmt r s) e c.requires).0

pub push_stmt-push_choice-requires-clause-guards : goal.push_stmt-push_choice-requires-clause-guards
push_stmt-push_choice-requires-clause-guards t c =
    own_guards (names_of c.args.scope.now) (plain_expr c.in-Case.expression) (plain_arms c.as_slice-rows.result.now)
    c.case_width-w.result c.new-guards.result c.push_guards.new.out c.case_width-w.ensures.value c.new-guards.ensures
    c.in_ok-push_guards-in-Case.ensures

pub push_stmt-push_choice-requires-clause-otherwise : goal.push_stmt-push_choice-requires-clause-otherwise
push_stmt-push_choice-requires-clause-otherwise t c =
    own_default (names_of c.args.scope.now) (plain_arms c.as_slice-rows.result.now) c.new-otherwise.result c.push_default.new.out
    c.new-otherwise.ensures c.in_ok-push_default-in-Case.ensures

pub push_stmt-returns-in_ok-push_default-in-Case : goal.push_stmt-returns-in_ok-push_default-in-Case
push_stmt-returns-in_ok-push_default-in-Case t c =
    let r = names_of c.args.scope.now in
    let s = plain_stmt c.args.stmt.now in
    let subject = plain_expr c.in-Case.expression in
    let whole = CaseStmt subject (plain_arms c.as_slice-rows.result.now) in
    let e : s ≡ whole =
    case_seen s subject c.as_slice-rows.result.now c.in-Case.arms (c.see_case.ensures c.args.stmt.now c.in-Case.is)
    c.as_slice-rows.ensures in
    on_ok_weaker c.push_choice.result (λ x. stmt_made r s whole c.args.out.now c.push_choice.new.out e x) c.push_choice.ensures

-- ---- arms with labels

pub push_guards-loop-arm-init : goal.push_guards-loop-arm-init
push_guards-loop-arm-init t c = record { more = λ end h. h; narrow = c.requires.arms }

pub push_guards-loop-arm-preserved : goal.push_guards-loop-arm-preserved
push_guards-loop-arm-preserved t c =
    let r = names_of c.args.scope.now in
    let subject = plain_expr c.args.subject.now in
    let l = c.loop-arm in
    let xs = c.args.arms.now in
    let x = c.arm-item.result in
    record {
      more = λ end h. l.invariant.more end
          (arms_step r subject c.args.w xs l.arm-index x l.out c.push_guard.new.out end c.loop-arm-test.true c.arm-item.is
          c.in_ok-push_guard.ensures h);
      narrow = (subst (λ (ys : List Arm). AreNarrowArms r c.args.w (plain_arms ys))
          (from_here xs l.arm-index x c.loop-arm-test.true c.arm-item.is) l.invariant.narrow).1;
    }

pub push_guards-returns : goal.push_guards-returns
push_guards-returns t c =
    c.loop-arm.invariant.more c.loop-arm.out
    (arms_end (names_of c.args.scope.now) (plain_expr c.args.subject.now) c.args.w c.args.arms.now c.loop-arm.arm-index c.loop-arm.out
    c.loop-arm-test.false)

pub push_guard-returns-in_ok-condition-in-Labels : goal.push_guard-returns-in_ok-condition-in-Labels
push_guard-returns-in_ok-condition-in-Labels t c =
    let r = names_of c.args.scope.now in
    let subject = plain_expr c.args.subject.now in
    let a = plain_arm c.args.arm.now in
    let b = plain_body c.in-Labels.body in
    let e : a ≡ LabelsArm (map plain_expr c.as_slice.result.now) b = search rules in
    let own = c.in_ok-condition-in-Labels in
    on_ok_weaker c.push.result
    (λ p. guard_made r subject c.args.w a (map plain_expr c.as_slice.result.now) b c.into_inner.result own.condition.value
    c.new-acts.result c.push_body.new.out c.args.out.now c.push.new.self e p c.into_inner.ensures
    (λ v. own.ensures.value v) (λ m k. own.ensures.reads m k) own.ensures.sized c.new-acts.ensures c.in_ok-push_body-in-Labels.ensures)
    c.push.ensures.ok

-- ---- `default`

pub push_default-loop-arm-preserved : goal.push_default-loop-arm-preserved
push_default-loop-arm-preserved t c =
    let r = names_of c.args.scope.now in
    let l = c.loop-arm in
    let xs = c.args.arms.now in
    let x = c.arm-item.result in
    let e : plain_arm x ≡ LabelsArm (map plain_expr c.in-Labels.labels) (plain_body c.in-Labels.body) = search rules in
    record {
      same = l.invariant.same;
      more = λ end h. l.invariant.more end
          (default_later r xs l.arm-index x (map plain_expr c.in-Labels.labels) (plain_body c.in-Labels.body) c.args.out.now end
          c.loop-arm-test.true c.arm-item.is e h);
      faultless = (subst (λ (ys : List Arm). AreFaultlessArms r (plain_arms ys))
          (from_here xs l.arm-index x c.loop-arm-test.true c.arm-item.is) l.invariant.faultless).1;
    }

pub push_default-returns-in-Default : goal.push_default-returns-in-Default
push_default-returns-in-Default t c =
    let r = names_of c.args.scope.now in
    let l = c.loop-arm in
    let xs = c.args.arms.now in
    let x = c.arm-item.result in
    let b = plain_body c.in-Default.body in
    let e : plain_arm x ≡ DefaultArm c.in-Default.line c.in-Default.colon b = search rules in
    on_ok_weaker c.push_body.result
    (λ h. l.invariant.more c.push_body.new.out
    (default_here r xs l.arm-index x c.in-Default.line c.in-Default.colon b c.args.out.now c.push_body.new.out c.loop-arm-test.true
    c.arm-item.is e (subst (λ ys. Extends (doing_body r b) ys c.push_body.new.out) l.invariant.same h))) c.push_body.ensures

pub push_default-returns : goal.push_default-returns
push_default-returns t c =
    let l = c.loop-arm in
    l.invariant.more l.out
    (subst (λ ys. Extends (doing_default (names_of c.args.scope.now) (plain_arms (drop l.arm-index c.args.arms.now))) ys l.out)
    l.invariant.same
    (default_end (names_of c.args.scope.now) c.args.arms.now l.arm-index l.out c.loop-arm-test.false))
