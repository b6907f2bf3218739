-- A moved choice, over its lists.
use Rattle.std.proofs.Common.{◌≡◌, ℕ, List, ◌∷◌, map, refl, ap, sym, ◌∙◌}
use Rattle.net_design.specs.declared.act.Guard.{Guard}
use Rattle.net_design.specs.declared.act.Act.{Act, Row_of-Act, end_of-Act, more_of-Act, Row_of-Guard, end_of-Guard, more_of-Guard}
use Rattle.net_design.specs.declared.act.Act.{items-the_row-Act, items_shown-the_row-Act-0, items_hidden-the_row-Act-0, items-the_row-Guard}
use Rattle.net_design.specs.declared.act.Act.{items_shown-the_row-Guard-1, items_hidden-the_row-Guard-1, roll-Act, roll-out-Act}
use Rattle.net_design.specs.declared.act.Act.TheVariants.{Branch}
use Rattle.net_design.specs.declared.act.Act.TheOpen.{Branch as OpenBranch}
use Rattle.net_design.specs.declared.act.Act.TheViews.{outs-Branch, outs-Branch'}
use Rattle.net_design.specs.declared.act.Act.TheBlock.{shape-the_row-Act-0, hidden-the_row-Act-0, shown-the_row-Act-0}
use Rattle.net_design.specs.declared.act.Act.TheBlock.{shape-the_row-Guard-1, hidden-the_row-Guard-1}
use Rattle.net_code.specs.Moved.{moved_rhs, moved_act, moved_guards, moved_row, moved_guard}

module _ (net word : ℕ) where
  row_items : {n : _} → (row : Row_of-Act n) → items-the_row-Act n (moved_row net word row) ≡ map (moved_act net word)
      (items-the_row-Act n row)
  row_items end_of-Act = refl
  row_items (more_of-Act a rest) = ap (λ xs. moved_act net word a ∷ xs) (row_items rest)

  shown_row : (k : _) (row : Row_of-Act _) → shown-the_row-Act-0 k (moved_row net word row) ≡ map (moved_act net word)
      (shown-the_row-Act-0 k row)
  shown_row k row =
      items_shown-the_row-Act-0 k (moved_row net word row) ∙ row_items row
      ∙ ap (map (moved_act net word)) (sym (items_shown-the_row-Act-0 k row))

  guard_items : {n : _} → (row : Row_of-Guard n) → items-the_row-Guard n (moved_guards net word row) ≡ map (moved_guard net word)
      (items-the_row-Guard n row)
  guard_items end_of-Guard = refl
  guard_items (more_of-Guard c k body rest) =
      ap (λ (b : List Act). record { condition = moved_rhs net word c; body = b } ∷ items-the_row-Guard _ (moved_guards net word rest))
      (shown_row k body)
      ∙ ap (λ xs. record { condition = moved_rhs net word c; body = map (moved_act net word) (shown-the_row-Act-0 k body) } ∷ xs)
      (guard_items rest)

  pub moved_branch : (guards : List Guard) (acts : List Act)
      → moved_act net word (Branch guards acts) ≡ Branch (map (moved_guard net word) guards) (map (moved_act net word) acts)
  moved_branch guards acts =
      let x : Act = moved_act net word (Branch guards acts) in
      let gs = items_shown-the_row-Guard-1 (shape-the_row-Guard-1 guards) (moved_guards net word (hidden-the_row-Guard-1 guards))
      ∙ guard_items (hidden-the_row-Guard-1 guards)
      ∙ ap (map (moved_guard net word)) (items_hidden-the_row-Guard-1 guards) in
      let as' = items_shown-the_row-Act-0 (shape-the_row-Act-0 acts) (moved_row net word (hidden-the_row-Act-0 acts))
      ∙ row_items (hidden-the_row-Act-0 acts)
      ∙ ap (map (moved_act net word)) (items_hidden-the_row-Act-0 acts) in
      sym (roll-out-Act x)
      ∙ ap roll-Act
      (outs-Branch' (shape-the_row-Guard-1 guards) (moved_guards net word (hidden-the_row-Guard-1 guards)) (shape-the_row-Act-0 acts)
      (moved_row net word (hidden-the_row-Act-0 acts))
      ∙ ap (λ g. OpenBranch g (shown-the_row-Act-0 (shape-the_row-Act-0 acts) (moved_row net word (hidden-the_row-Act-0 acts)))) gs
      ∙ ap (λ a. OpenBranch (map (moved_guard net word) guards) a) as'
      ∙ sym (outs-Branch (map (moved_guard net word) guards) (map (moved_act net word) acts)))
      ∙ roll-out-Act (Branch (map (moved_guard net word) guards) (map (moved_act net word) acts))
