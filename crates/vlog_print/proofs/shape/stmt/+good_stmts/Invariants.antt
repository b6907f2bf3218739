use Rattle.std.proofs.Common.{◌↔◌, drop}
use Rattle.vlog_tree.specs.Plain.{plain_stmts, plain_arms}
use Rattle.vlog_tree.specs.Shape.{AreGoodStmts, AreAllGoodArms}
use Rattle.vlog_print.proofs.shape.stmt.+good_stmts.Given as goal

abbrev pub invariant-good_arms-loop-arm : goal.invariant-good_arms-loop-arm
invariant-good_arms-loop-arm l = AreAllGoodArms (plain_arms (drop l.arm-index l.rest)) ↔ AreAllGoodArms (plain_arms l.rest)

abbrev pub invariant-good_stmts-loop-stmt : goal.invariant-good_stmts-loop-stmt
invariant-good_stmts-loop-stmt l = AreGoodStmts (plain_stmts (drop l.stmt-index l.stmts)) ↔ AreGoodStmts (plain_stmts l.stmts)
