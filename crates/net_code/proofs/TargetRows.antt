-- The targets of a choice, over its lists.
use Rattle.std.proofs.Common.{◌≡◌, List, ◌++◌, refl, ap, sym, ◌∙◌}
use Rattle.net_design.specs.declared.act.Place.{Place}
use Rattle.net_design.specs.declared.act.Guard.{Guard}
use Rattle.net_design.specs.declared.act.Act.{Act, Row_of-Act, end_of-Act, more_of-Act, Row_of-Guard, end_of-Guard, more_of-Guard}
use Rattle.net_design.specs.declared.act.Act.{items-the_row-Act, items_shown-the_row-Act-0, items_hidden-the_row-Act-0, items-the_row-Guard}
use Rattle.net_design.specs.declared.act.Act.{items_hidden-the_row-Guard-1}
use Rattle.net_design.specs.declared.act.Act.TheVariants.{Branch}
use Rattle.net_design.specs.declared.act.Act.TheBlock.{hidden-the_row-Act-0, hidden-the_row-Guard-1, shown-the_row-Act-0}
use Rattle.net_code.specs.Targets.{targets, guard_row_targets, row_targets, block_targets, guard_targets}

of_row : {n : _} → (row : Row_of-Act n) → row_targets row ≡ block_targets (items-the_row-Act n row)
unfolding block_targets
of_row end_of-Act = refl
of_row (more_of-Act a rest) = ap (λ (ps : List Place). targets a ++ ps) (of_row rest)

of_body : {n : _} → (body : Row_of-Act n) (acts : List Act) → acts ≡ items-the_row-Act n body → row_targets body ≡ block_targets acts
of_body body acts e = of_row body ∙ ap block_targets (sym e)

of_guards : {n : _} → (row : Row_of-Guard n) → guard_row_targets row ≡ guard_targets (items-the_row-Guard n row)
unfolding guard_targets
of_guards end_of-Guard = refl
of_guards (more_of-Guard c j body rest) =
    ap (λ (ps : List Place). ps ++ guard_row_targets rest) (of_body body (shown-the_row-Act-0 j body) (items_shown-the_row-Act-0 j body))
    ∙ ap (λ (ps : List Place). block_targets (shown-the_row-Act-0 j body) ++ ps) (of_guards rest)

pub branch_targets : (guards : List Guard) (acts : List Act) → targets (Branch guards acts) ≡ guard_targets guards ++ block_targets acts
branch_targets guards acts =
    ap (λ (ps : List Place). ps ++ row_targets (hidden-the_row-Act-0 acts))
    (of_guards (hidden-the_row-Guard-1 guards) ∙ ap guard_targets (items_hidden-the_row-Guard-1 guards))
    ∙ ap (λ (ps : List Place). guard_targets guards ++ ps)
    (of_row (hidden-the_row-Act-0 acts) ∙ ap block_targets (items_hidden-the_row-Act-0 acts))
