use Rattle.std.proofs.Common.{length, ◌-◌}
use Rattle.vlog_hierarchy.specs.Plain.{plain_outlines}
use Rattle.vlog_hierarchy.proofs.Reaching.{IsReach}
use Rattle.vlog_hierarchy.proofs.walk.walk_from.Given as goal

abbrev pub invariant-loop-next : goal.invariant-loop-next
invariant-loop-next l = IsReach (plain_outlines l.outlines) l.from l.next l.reached.marks l.reached.found

abbrev pub decreases-loop-next : goal.decreases-loop-next
decreases-loop-next l = length l.outlines - l.next
