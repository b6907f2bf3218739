-- The rows in which a statement holds its guards and statements, as the lists that they are.
use Rattle.std.proofs.Common.{◌≡◌, ℕ, ◌==◌, Bool, List, ◌++◌, if◌then◌else◌, refl, ap, sym, subst, ◌∙◌}
use Rattle.net_design.specs.declared.rhs.Span.{Span}
use Rattle.net_design.specs.declared.rhs.Room.{Room}
use Rattle.net_design.specs.declared.act.Guard.{Guard}
use Rattle.net_design.specs.declared.act.Act.{Act, Row_of-Act, end_of-Act, more_of-Act, Row_of-Guard, end_of-Guard, more_of-Guard}
use Rattle.net_design.specs.declared.act.Act.{items-the_row-Act, items_shown-the_row-Act-0, items_hidden-the_row-Act-0, items-the_row-Guard}
use Rattle.net_design.specs.declared.act.Act.{items_hidden-the_row-Guard-1}
use Rattle.net_design.specs.declared.act.Act.TheVariants.{Branch}
use Rattle.net_design.specs.declared.act.Act.TheBlock.{hidden-the_row-Act-0, hidden-the_row-Guard-1, shown-the_row-Act-0}
use Rattle.net_design.specs.declared.act.Timing.{Timing}
use Rattle.net_design.specs.declared.values.Update.{Update}
use Rattle.net_design.specs.declared.values.Values.{Values}
use Rattle.net_design.specs.Value.{value}
use Rattle.net_design.specs.Sized.{IsBlock, AreGuards, IsAct, IsActRow, IsGuardRow}
use Rattle.net_design.specs.Updates.{updates, guard_row, act_row, block_updates, guard_updates, seen}

act_items : {n : _} → (t : Timing) (row : Row_of-Act n) (v : Values) → act_row t row v ≡ block_updates t (items-the_row-Act n row) v
act_items t end_of-Act v = refl
act_items t (more_of-Act a rest) v = ap (λ us. updates t a v ++ us) (act_items t rest (seen t (updates t a v) v))

pub act_hidden : (t : Timing) (acts : List Act) (v : Values) → act_row t (hidden-the_row-Act-0 acts) v ≡ block_updates t acts v
act_hidden t acts v = act_items t (hidden-the_row-Act-0 acts) v ∙ ap (λ xs. block_updates t xs v) (items_hidden-the_row-Act-0 acts)

body_items : {n : _} → (t : Timing) (body : Row_of-Act n) (v : Values) (acts : List Act) → acts ≡ items-the_row-Act n body
    → act_row t body v ≡ block_updates t acts v
body_items t body v acts h = act_items t body v ∙ ap (λ xs. block_updates t xs v) (sym h)

pub choice : (b : Bool) (x x' y y' : List Update) → x ≡ x' → y ≡ y' → (if b then x else y) ≡ (if b then x' else y')
choice b x x' y y' h k = ap (λ u. if b then u else y) h ∙ ap (λ u. if b then x' else u) k

guard_items : {n : _} → (t : Timing) (row : Row_of-Guard n) (us : List Update) (v : Values)
    → guard_row t row us v ≡ guard_updates t (items-the_row-Guard n row) us v
guard_items t end_of-Guard us v = refl
guard_items t (more_of-Guard c k body rest) us v =
    choice (value c v == 0) _ _ _ _ (guard_items t rest us v)
    (body_items t body v (shown-the_row-Act-0 k body) (items_shown-the_row-Act-0 k body))

pub updates_branch : (t : Timing) (guards : List Guard) (acts : List Act) (v : Values)
    → updates t (Branch guards acts) v ≡ guard_updates t guards (block_updates t acts v) v
updates_branch t guards acts v =
    guard_items t (hidden-the_row-Guard-1 guards) (act_row t (hidden-the_row-Act-0 acts) v) v
    ∙ ap (λ xs. guard_updates t xs (act_row t (hidden-the_row-Act-0 acts) v) v) (items_hidden-the_row-Guard-1 guards)
    ∙ ap (λ us. guard_updates t guards us v) (act_hidden t acts v)

module _ (P : Span → Type 0) (R : Room → ℕ → Type 0) where
  act_parts : {n : _} → (row : Row_of-Act n) → IsActRow P R row → IsBlock P R (items-the_row-Act n row)
  act_parts end_of-Act h = tt
  act_parts (more_of-Act a rest) h = (h.0, act_parts rest h.1)

  body_parts : {n : _} → (body : Row_of-Act n) (acts : List Act) → acts ≡ items-the_row-Act n body → IsActRow P R body → IsBlock P R acts
  body_parts body acts e h = subst (λ xs. IsBlock P R xs) (sym e) (act_parts body h)

  guard_parts : {n : _} → (row : Row_of-Guard n) → IsGuardRow P R row → AreGuards P R (items-the_row-Guard n row)
  guard_parts end_of-Guard h = tt
  guard_parts (more_of-Guard c k body rest) h =
      ((h.0.0, body_parts body (shown-the_row-Act-0 k body) (items_shown-the_row-Act-0 k body) h.0.1), guard_parts rest h.1)

  pub sized_branch : (guards : List Guard) (acts : List Act) → IsAct P R (Branch guards acts) → AreGuards P R guards × IsBlock P R acts
  sized_branch guards acts h = (
    subst (λ xs. AreGuards P R xs) (items_hidden-the_row-Guard-1 guards) (guard_parts (hidden-the_row-Guard-1 guards) h.0),
    subst (λ xs. IsBlock P R xs) (items_hidden-the_row-Act-0 acts) (act_parts (hidden-the_row-Act-0 acts) h.1),
  )

  part_acts : {n : _} → (row : Row_of-Act n) → IsBlock P R (items-the_row-Act n row) → IsActRow P R row
  part_acts end_of-Act h = tt
  part_acts (more_of-Act a rest) h = (h.0, part_acts rest h.1)

  part_body : {n : _} → (body : Row_of-Act n) (acts : List Act) → acts ≡ items-the_row-Act n body → IsBlock P R acts → IsActRow P R body
  part_body body acts e h = part_acts body (subst (λ xs. IsBlock P R xs) e h)

  part_guards : {n : _} → (row : Row_of-Guard n) → AreGuards P R (items-the_row-Guard n row) → IsGuardRow P R row
  part_guards end_of-Guard h = tt
  part_guards (more_of-Guard c k body rest) h =
      ((h.0.0, part_body body (shown-the_row-Act-0 k body) (items_shown-the_row-Act-0 k body) h.0.1), part_guards rest h.1)

  pub branch_sized : (guards : List Guard) (acts : List Act) → AreGuards P R guards → IsBlock P R acts → IsAct P R (Branch guards acts)
  branch_sized guards acts g h = (
    part_guards (hidden-the_row-Guard-1 guards) (subst (λ xs. AreGuards P R xs) (sym (items_hidden-the_row-Guard-1 guards)) g),
    part_acts (hidden-the_row-Act-0 acts) (subst (λ xs. IsBlock P R xs) (sym (items_hidden-the_row-Act-0 acts)) h),
  )
