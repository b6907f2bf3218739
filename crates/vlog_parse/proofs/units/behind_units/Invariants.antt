use Rattle.std.proofs.Common.{◌≡◌, ◌≤◌, false}
use Rattle.vlog_item.specs.vlog_expr.Marks.{all_marked}
use Rattle.vlog_parse.specs.UnitReader.{behind_units}
use Rattle.vlog_parse.proofs.units.behind_units.Given as goal

abbrev pub decreases-loop-left : goal.decreases-loop-left
decreases-loop-left l = l.left

abbrev pub invariant-loop-left : goal.invariant-loop-left
invariant-loop-left l = (l.left ≤ l.fuel) × (behind_units l.fuel l.left l.inside (all_marked l.rest)
    ≡ behind_units l.fuel l.fuel false (all_marked l.tokens))
