-- Whether a choice writes words of memories, over its lists.
use Rattle.std.proofs.Common.{◌≡◌, ◌||◌, List, refl, ap, sym, ◌∙◌}
use Rattle.net_design.specs.declared.act.Guard.{Guard}
use Rattle.net_design.specs.declared.act.Act.{Act, Row_of-Act, end_of-Act, more_of-Act, Row_of-Guard, end_of-Guard, more_of-Guard}
use Rattle.net_design.specs.declared.act.Act.{items-the_row-Act, items_shown-the_row-Act-0, items_hidden-the_row-Act-0, items-the_row-Guard}
use Rattle.net_design.specs.declared.act.Act.{items_hidden-the_row-Guard-1}
use Rattle.net_design.specs.declared.act.Act.TheVariants.{Branch}
use Rattle.net_design.specs.declared.act.Act.TheBlock.{hidden-the_row-Act-0, hidden-the_row-Guard-1, shown-the_row-Act-0}
use Rattle.net_design.specs.Bits.{writes_words, guards_write_words, row_writes_words, block_writes_words}
use Rattle.net_lawful.specs.Words.{guards_write}

of_row : {n : _} → (row : Row_of-Act n) → row_writes_words row ≡ block_writes_words (items-the_row-Act n row)
of_row end_of-Act = refl
of_row (more_of-Act a rest) = ap (λ b. writes_words a || b) (of_row rest)

of_body : {n : _} → (body : Row_of-Act n) (acts : List Act) → acts ≡ items-the_row-Act n body
    → row_writes_words body ≡ block_writes_words acts
of_body body acts e = of_row body ∙ ap (λ (xs : List Act). block_writes_words xs) (sym e)

of_guards : {n : _} → (row : Row_of-Guard n) → guards_write_words row ≡ guards_write (items-the_row-Guard n row)
of_guards end_of-Guard = refl
of_guards (more_of-Guard c j body rest) =
    ap (λ b. b || guards_write_words rest) (of_body body (shown-the_row-Act-0 j body) (items_shown-the_row-Act-0 j body))
    ∙ ap (λ b. block_writes_words (shown-the_row-Act-0 j body) || b) (of_guards rest)

pub branch_words : (guards : List Guard) (acts : List Act)
    → writes_words (Branch guards acts) ≡ (guards_write guards || block_writes_words acts)
branch_words guards acts =
    ap (λ b. b || row_writes_words (hidden-the_row-Act-0 acts))
    (of_guards (hidden-the_row-Guard-1 guards) ∙ ap (λ (gs : List Guard). guards_write gs) (items_hidden-the_row-Guard-1 guards))
    ∙ ap (λ b. guards_write guards || b)
    (of_row (hidden-the_row-Act-0 acts) ∙ ap (λ (xs : List Act). block_writes_words xs) (items_hidden-the_row-Act-0 acts))
