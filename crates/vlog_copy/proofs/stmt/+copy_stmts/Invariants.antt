use Rattle.std.proofs.Common.{◌≡◌, ◌++◌, drop, map}
use Rattle.vlog_tree.specs.Plain.{plain_arm, plain_stmt}
use Rattle.vlog_copy.proofs.stmt.+copy_stmts.Given as goal

abbrev pub invariant-copy_arms-loop-arm : goal.invariant-copy_arms-loop-arm
invariant-copy_arms-loop-arm l = map plain_arm l.copy ++ map plain_arm (drop l.arm-index l.arms) ≡ map plain_arm l.arms

abbrev pub invariant-copy_stmts-loop-stmt : goal.invariant-copy_stmts-loop-stmt
invariant-copy_stmts-loop-stmt l = map plain_stmt l.copy ++ map plain_stmt (drop l.stmt-index l.stmts) ≡ map plain_stmt l.stmts
