use Rattle.std.proofs.Common.{ℕ, ◌<◌}
use Rattle.vlog_hierarchy.specs.Plain.{plain_outlines}
use Rattle.vlog_hierarchy.specs.Labels.{IsOpen}
use Rattle.vlog_hierarchy.proofs.walk.first_open.Given as goal

abbrev pub invariant-loop-place : goal.invariant-loop-place
invariant-loop-place l = (j : ℕ) → j < l.place → IsOpen (plain_outlines l.outlines) l.labels l.top j → ⊥
