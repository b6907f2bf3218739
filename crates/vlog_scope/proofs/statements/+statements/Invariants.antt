use Rattle.std.proofs.Common.{◌≡◌, drop}
use Rattle.vlog_tree.specs.Plain.{plain_stmts, plain_arms}
use Rattle.vlog_size.specs.Names.{readable_in}
use Rattle.vlog_scope.specs.Faults.{stmts_faults, arms_faults}
use Rattle.vlog_scope.proofs.statements.+statements.Given as goal

abbrev pub invariant-stmts_fault-loop-stmt : goal.invariant-stmts_fault-loop-stmt
invariant-stmts_fault-loop-stmt l = stmts_faults l.kind (readable_in l.view) (plain_stmts (drop l.stmt-index l.stmts))
    ≡ stmts_faults l.kind (readable_in l.view) (plain_stmts l.stmts)

abbrev pub invariant-arms_fault-loop-arm : goal.invariant-arms_fault-loop-arm
invariant-arms_fault-loop-arm l = arms_faults l.kind (readable_in l.view) (plain_arms (drop l.arm-index l.arms))
    ≡ arms_faults l.kind (readable_in l.view) (plain_arms l.arms)
