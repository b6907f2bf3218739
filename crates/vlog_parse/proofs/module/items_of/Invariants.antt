use Rattle.std.proofs.Common.{◌≡◌, ◌≤◌, [], map}
use Rattle.vlog_tree.specs.Plain.{plain_item}
use Rattle.vlog_item.specs.vlog_expr.Marks.{all_marked}
use Rattle.vlog_parse.specs.FileReader.{items_at}
use Rattle.vlog_parse.proofs.module.items_of.Given as goal

abbrev pub decreases-loop-left : goal.decreases-loop-left
decreases-loop-left l = l.left

abbrev pub invariant-loop-left : goal.invariant-loop-left
invariant-loop-left l =
    (l.left ≤ l.fuel) × (items_at l.fuel l.left (map plain_item l.items) (all_marked l.rest)
    ≡ items_at l.fuel l.fuel [] (all_marked l.tokens))
