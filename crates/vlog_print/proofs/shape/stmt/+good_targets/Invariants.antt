use Rattle.std.proofs.Common.{◌↔◌, drop}
use Rattle.vlog_tree.specs.Plain.{plain_targets}
use Rattle.vlog_tree.specs.Shape.{AreAllGoodTargets}
use Rattle.vlog_print.proofs.shape.stmt.+good_targets.Given as goal

abbrev pub invariant-good_targets-loop-target : goal.invariant-good_targets-loop-target
invariant-good_targets-loop-target l = AreAllGoodTargets (plain_targets (drop l.target-index l.rest))
    ↔ AreAllGoodTargets (plain_targets l.rest)
