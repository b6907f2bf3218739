-- The code of a choice, over its lists.
use Rattle.std.proofs.Common.{◌≡◌, ℕ, List, ◌++◌, refl, ap, sym, ◌∙◌}
use Rattle.net_design.specs.declared.act.Guard.{Guard}
use Rattle.net_design.specs.declared.act.Act.{Act, Row_of-Act, end_of-Act, more_of-Act, Row_of-Guard, end_of-Guard, more_of-Guard}
use Rattle.net_design.specs.declared.act.Act.{items-the_row-Act, items_shown-the_row-Act-0, items_hidden-the_row-Act-0, items-the_row-Guard}
use Rattle.net_design.specs.declared.act.Act.{items_hidden-the_row-Guard-1}
use Rattle.net_design.specs.declared.act.Act.TheVariants.{Branch}
use Rattle.net_design.specs.declared.act.Act.TheBlock.{hidden-the_row-Act-0, hidden-the_row-Guard-1, shown-the_row-Act-0}
use Rattle.net_instr.specs.declared.instr.Instr.{Instr}
use Rattle.net_instr.specs.Layout.{base}
use Rattle.net_instr.specs.Expressions.{slot}
use Rattle.net_instr.specs.Statements.{choice, test_code, act_code, guard_row_code, act_row_code, block_code, guard_code}

module _ (widths : List ℕ) (W o : ℕ) where
  act_items : {n : _} → (row : Row_of-Act n) → act_row_code widths W o row ≡ block_code widths W o (items-the_row-Act n row)
  act_items end_of-Act = refl
  act_items (more_of-Act a rest) = ap (λ xs. xs ++ act_code widths W o a) (act_items rest)

  act_hidden : (acts : List Act) → act_row_code widths W o (hidden-the_row-Act-0 acts) ≡ block_code widths W o acts
  act_hidden acts = act_items (hidden-the_row-Act-0 acts) ∙ ap (block_code widths W o) (items_hidden-the_row-Act-0 acts)

  body_items : {n : _} → (body : Row_of-Act n) (acts : List Act) → acts ≡ items-the_row-Act n body
      → act_row_code widths W o body ≡ block_code widths W o acts
  body_items body acts h = act_items body ∙ ap (block_code widths W o) (sym h)

  guard_items : {n : _} → (row : Row_of-Guard n) (ys : List Instr)
      → guard_row_code widths W o row ys ≡ guard_code widths W o (items-the_row-Guard n row) ys
  guard_items end_of-Guard ys = refl
  guard_items (more_of-Guard c k body rest) ys =
      let test = slot widths c (base widths W) in
      ap (λ xs. choice test xs (guard_row_code widths W o rest ys) ++ test_code widths W c)
      (body_items body (shown-the_row-Act-0 k body) (items_shown-the_row-Act-0 k body))
      ∙ ap (λ zs. choice test (block_code widths W o (shown-the_row-Act-0 k body)) zs ++ test_code widths W c) (guard_items rest ys)

  pub code_branch : (guards : List Guard) (acts : List Act)
      → act_code widths W o (Branch guards acts) ≡ guard_code widths W o guards (block_code widths W o acts)
  code_branch guards acts =
      guard_items (hidden-the_row-Guard-1 guards) (act_row_code widths W o (hidden-the_row-Act-0 acts))
      ∙ ap (λ gs. guard_code widths W o gs (act_row_code widths W o (hidden-the_row-Act-0 acts))) (items_hidden-the_row-Guard-1 guards)
      ∙ ap (guard_code widths W o guards) (act_hidden acts)
