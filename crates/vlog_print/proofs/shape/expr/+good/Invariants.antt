use Rattle.std.proofs.Common.{◌↔◌, drop}
use Rattle.vlog_tree.specs.Plain.{plain_exprs}
use Rattle.vlog_tree.specs.Shape.{AreAllGoodExprs}
use Rattle.vlog_print.proofs.shape.expr.+good.Given as goal

abbrev pub invariant-good_exprs-loop-e : goal.invariant-good_exprs-loop-e
invariant-good_exprs-loop-e l = AreAllGoodExprs (plain_exprs (drop l.e-index l.rest)) ↔ AreAllGoodExprs (plain_exprs l.rest)
