use Rattle.std.proofs.Common.{ℕ, ◌<◌}
use Rattle.vlog_hierarchy.specs.Plain.{plain_outlines}
use Rattle.vlog_hierarchy.specs.Labels.{HoldsAbove}
use Rattle.vlog_hierarchy.proofs.labels.never_fall.Given as goal

abbrev pub invariant-loop-place : goal.invariant-loop-place
invariant-loop-place l = (a : ℕ) → a < l.place → HoldsAbove (plain_outlines l.outlines) l.labels a
