use Rattle.std.proofs.Common.{◌≡◌, ◌≤◌, map}
use Rattle.vlog_tree.specs.Plain.{plain_module}
use Rattle.vlog_item.specs.vlog_expr.Marks.{all_marked}
use Rattle.vlog_parse.specs.FileReader.{modules_at}
use Rattle.vlog_parse.proofs.module.modules_of.Given as goal

abbrev pub decreases-loop-left : goal.decreases-loop-left
decreases-loop-left l = l.left

abbrev pub invariant-loop-left : goal.invariant-loop-left
invariant-loop-left l =
    (l.left ≤ l.fuel) × (modules_at l.fuel l.left (map plain_module l.front) (all_marked l.rest)
    ≡ modules_at l.fuel l.fuel (map plain_module l.fn.front) (all_marked l.tokens))
