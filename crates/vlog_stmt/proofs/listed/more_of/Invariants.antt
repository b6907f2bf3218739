use Rattle.std.proofs.Common.{◌≡◌, ◌≤◌, map}
use Rattle.vlog_expr.specs.Marks.{all_marked}
use Rattle.vlog_expr.specs.Reader.{more_at}
use Rattle.vlog_stmt.proofs.listed.more_of.Given as goal

abbrev pub decreases-loop-left : goal.decreases-loop-left
decreases-loop-left g l = l.left

abbrev pub invariant-loop-left : goal.invariant-loop-left
invariant-loop-left g l =
    let R = g.R.ListReader in
    (l.left ≤ l.fuel) × (more_at (R.one_at l.fuel) l.left (map R.plain l.front) (all_marked l.rest)
    ≡ more_at (R.one_at l.fuel) l.fuel (map R.plain l.fn.front) (all_marked l.tokens))
