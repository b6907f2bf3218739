use Rattle.std.proofs.Common.{◌≡◌, ◌≤◌, ◌+◌, ◌-◌, ◌*◌, [], ◌∷◌, map}
use Rattle.vlog_tree.specs.Plain.{plain_expr}
use Rattle.vlog_expr.specs.Marks.{all_marked}
use Rattle.vlog_expr.specs.Reader.{climb_at, parts_at}
use Rattle.vlog_expr.proofs.expr.+reader.Given as goal

abbrev pub decreases-expr_of : goal.decreases-expr_of
decreases-expr_of l = 2 * l.fuel

abbrev pub decreases-choice_of : goal.decreases-choice_of
decreases-choice_of l = 2 * l.fuel

abbrev pub decreases-binary_of : goal.decreases-binary_of
decreases-binary_of l = 2 * l.fuel

abbrev pub decreases-climb_of : goal.decreases-climb_of
decreases-climb_of l = 2 * (l.base + (11 - l.level)) + 1

abbrev pub decreases-climb_of-loop-at : goal.decreases-climb_of-loop-at
decreases-climb_of-loop-at l = l.at

abbrev pub invariant-climb_of-loop-at : goal.invariant-climb_of-loop-at
invariant-climb_of-loop-at l =
    (l.level ≤ l.at) × (l.at ≤ 11) × (l.fuel + (l.at - l.level) ≡ l.base + (11 - l.level))
    × (climb_at l.fuel (l.at - 1) (l.at - l.level) (plain_expr l.left, all_marked l.rest)
    ≡ climb_at l.base 10 (11 - l.level) (plain_expr l.fn.operand, all_marked l.tokens))

abbrev pub decreases-chain_of : goal.decreases-chain_of
decreases-chain_of l = 2 * l.fuel + 1

abbrev pub decreases-unary_of : goal.decreases-unary_of
decreases-unary_of l = 2 * l.fuel

abbrev pub decreases-prim_of : goal.decreases-prim_of
decreases-prim_of l = 2 * l.fuel

abbrev pub decreases-paren_of : goal.decreases-paren_of
decreases-paren_of l = 2 * l.fuel

abbrev pub decreases-concat_of : goal.decreases-concat_of
decreases-concat_of l = 2 * l.fuel

abbrev pub decreases-repeat_of : goal.decreases-repeat_of
decreases-repeat_of l = 2 * l.fuel

abbrev pub decreases-parts_of : goal.decreases-parts_of
decreases-parts_of l = 2 * l.fuel + 1

abbrev pub decreases-ref_of : goal.decreases-ref_of
decreases-ref_of l = 2 * l.fuel

abbrev pub decreases-second_of : goal.decreases-second_of
decreases-second_of l = 2 * l.fuel

abbrev pub decreases-sel_of : goal.decreases-sel_of
decreases-sel_of l = 2 * l.fuel

abbrev pub decreases-bounds_of : goal.decreases-bounds_of
decreases-bounds_of l = 2 * l.fuel

abbrev pub decreases-parts_of-loop-left : goal.decreases-parts_of-loop-left
decreases-parts_of-loop-left l = l.left

abbrev pub invariant-parts_of-loop-left : goal.invariant-parts_of-loop-left
invariant-parts_of-loop-left l =
    (l.left ≤ l.fn.fuel) × (parts_at l.left (map plain_expr l.parts) (all_marked l.rest)
    ≡ parts_at l.fn.fuel (plain_expr l.fn.first ∷ []) (all_marked l.fn.tokens))
