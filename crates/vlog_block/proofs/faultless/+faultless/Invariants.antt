use Rattle.std.proofs.Common.{◌↔◌, drop}
use Rattle.vlog_tree.specs.Plain.{plain_stmts, plain_arms}
use Rattle.vlog_block.specs.Sources.{names_of}
use Rattle.vlog_block.specs.Faultless.{AreFaultlessStmts, AreFaultlessArms}
use Rattle.vlog_block.proofs.faultless.+faultless.Given as goal

abbrev pub invariant-are_faultless_arms-loop-arm : goal.invariant-are_faultless_arms-loop-arm
invariant-are_faultless_arms-loop-arm l =
    AreFaultlessArms (names_of l.scope) (plain_arms (drop l.arm-index l.arms))
    ↔ AreFaultlessArms (names_of l.scope) (plain_arms l.arms)

abbrev pub invariant-are_faultless_stmts-loop-stmt : goal.invariant-are_faultless_stmts-loop-stmt
invariant-are_faultless_stmts-loop-stmt l =
    AreFaultlessStmts (names_of l.scope) (plain_stmts (drop l.stmt-index l.stmts))
    ↔ AreFaultlessStmts (names_of l.scope) (plain_stmts l.stmts)
