use Rattle.std.proofs.Common.{◌≡◌, drop}
use Rattle.vlog_tree.specs.Plain.{plain_exprs}
use Rattle.vlog_hierarchy.specs.Clock.{exprs_faults}
use Rattle.vlog_hierarchy.proofs.reads.+exprs.Given as goal

abbrev pub invariant-check_exprs-loop-e : goal.invariant-check_exprs-loop-e
invariant-check_exprs-loop-e l =
    exprs_faults l.marks l.joined (plain_exprs (drop l.e-index l.exprs)) ≡ exprs_faults l.marks l.joined (plain_exprs l.exprs)
