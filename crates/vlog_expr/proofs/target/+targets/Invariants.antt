use Rattle.std.proofs.Common.{◌≡◌, ◌≤◌, ◌+◌, ◌*◌, map}
use Rattle.vlog_tree.specs.Plain.{plain_target}
use Rattle.vlog_expr.specs.Marks.{all_marked}
use Rattle.vlog_expr.specs.Reader.{targets_at}
use Rattle.vlog_expr.proofs.target.+targets.Given as goal

abbrev pub decreases-target_of : goal.decreases-target_of
decreases-target_of l = 2 * l.fuel

abbrev pub decreases-targets_of : goal.decreases-targets_of
decreases-targets_of l = 2 * l.fuel + 1

abbrev pub decreases-targets_of-loop-left : goal.decreases-targets_of-loop-left
decreases-targets_of-loop-left l = l.left

abbrev pub invariant-targets_of-loop-left : goal.invariant-targets_of-loop-left
invariant-targets_of-loop-left l =
    (l.left ≤ l.fn.fuel) × (targets_at l.left (map plain_target l.parts) (all_marked l.rest)
    ≡ targets_at l.fn.fuel (map plain_target l.fn.parts) (all_marked l.fn.tokens))
