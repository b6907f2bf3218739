use Rattle.std.proofs.Common.{ℕ, ◌<◌}
use Rattle.vlog_hierarchy.specs.Plain.{plain_outlines}
use Rattle.vlog_hierarchy.specs.Nested.{IsNested}
use Rattle.vlog_hierarchy.proofs.walk.first_by_walks.Given as goal

abbrev pub invariant-loop-place : goal.invariant-loop-place
invariant-loop-place l = (j : ℕ) → j < l.place → IsNested (plain_outlines l.outlines) l.top j → ⊥
