use Rattle.std.proofs.Common.{◌≡◌, List, drop}
use Rattle.vlog_tree.specs.Plain.{plain_expr, plain_stmts, plain_arms}
use Rattle.net_design.specs.declared.act.Act.{Act}
use Rattle.net_design.specs.declared.act.Guard.{Guard}
use Rattle.vlog_block.specs.Sources.{names_of}
use Rattle.vlog_block.specs.Faultless.{AreFaultlessStmts, AreFaultlessArms}
use Rattle.vlog_block.specs.Extends.{Extends, Lengthens, doing_stmts, doing_default, choosing_arms, AreNarrowArms}
use Rattle.vlog_block.proofs.block.+statements.Given as goal

-- what the rest of the statements makes of what there is, all of them make of what there was
abbrev pub invariant-push_stmts-loop-stmt : goal.invariant-push_stmts-loop-stmt
invariant-push_stmts-loop-stmt l =
    let r = names_of l.scope in
    let rest = plain_stmts (drop l.stmt-index l.stmts) in
    record {
      more : (end : List Act) → Extends (doing_stmts r rest) l.out end → Extends (doing_stmts r (plain_stmts l.stmts)) l.initial.out end;
      faultless : AreFaultlessStmts r rest;
    }

abbrev pub invariant-push_guards-loop-arm : goal.invariant-push_guards-loop-arm
invariant-push_guards-loop-arm l =
    let r = names_of l.scope in
    let rest = plain_arms (drop l.arm-index l.arms) in
    let subject = plain_expr l.subject in
    record {
      more : (end : List Guard) → Lengthens (choosing_arms r subject l.w rest) l.out end
          → Lengthens (choosing_arms r subject l.w (plain_arms l.arms)) l.initial.out end;
      narrow : AreNarrowArms r l.w rest;
    }

-- so far there was no `default`
abbrev pub invariant-push_default-loop-arm : goal.invariant-push_default-loop-arm
invariant-push_default-loop-arm l =
    let r = names_of l.scope in
    let rest = plain_arms (drop l.arm-index l.arms) in
    record {
      same : l.out ≡ l.initial.out;
      more : (end : List Act) → Extends (doing_default r rest) l.initial.out end
          → Extends (doing_default r (plain_arms l.arms)) l.initial.out end;
      faultless : AreFaultlessArms r rest;
    }
