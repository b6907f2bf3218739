use Rattle.std.proofs.Common.{ℕ, List, take, drop, length, ap, ◌∙◌}
use Rattle.net_sim.proofs.LoadLaws.{came_back}
use Rattle.net_sim.proofs.slots.load_slots.Goals as goal

pub returns-clause-state : goal.returns-clause-state
returns-clause-state c =
    ap (λ (xs : List ℕ). take c.args.span (drop c.args.span xs))
    (came_back c.args.slots.now c.load_state.new.slots (c.load_state.auto.slots ∙ ap length c.as_mut_slice.ensures.value))
    ∙ c.load_state.ensures.state

pub returns-clause-shown : goal.returns-clause-shown
returns-clause-shown c =
    ap (λ (xs : List ℕ). take c.args.span xs)
    (came_back c.args.slots.now c.load_state.new.slots (c.load_state.auto.slots ∙ ap length c.as_mut_slice.ensures.value))
    ∙ c.load_state.ensures.shown ∙ ap (λ (xs : List ℕ). take c.args.span xs) c.as_mut_slice.ensures.value

pub returns-clause-long : goal.returns-clause-long
returns-clause-long c =
    ap length (came_back c.args.slots.now c.load_state.new.slots (c.load_state.auto.slots ∙ ap length c.as_mut_slice.ensures.value))
    ∙ c.load_state.auto.slots ∙ ap length c.as_mut_slice.ensures.value
