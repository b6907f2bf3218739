use Rattle.std.proofs.Common.{◌≡◌, drop}
use Rattle.vlog_tree.specs.Plain.{plain_stmts, plain_arms}
use Rattle.vlog_hierarchy.specs.Clock.{stmts_faults, arms_faults}
use Rattle.vlog_hierarchy.proofs.reads.+stmts.Given as goal

abbrev pub invariant-check_arms-loop-arm : goal.invariant-check_arms-loop-arm
invariant-check_arms-loop-arm l =
    arms_faults l.marks l.joined (plain_arms (drop l.arm-index l.arms)) ≡ arms_faults l.marks l.joined (plain_arms l.arms)

abbrev pub invariant-check_stmts-loop-stmt : goal.invariant-check_stmts-loop-stmt
invariant-check_stmts-loop-stmt l =
    stmts_faults l.marks l.joined (plain_stmts (drop l.stmt-index l.stmts)) ≡ stmts_faults l.marks l.joined (plain_stmts l.stmts)
