use Rattle.std.proofs.Common.{ℕ, ◌+◌, List, length, take, ap, ◌∙◌}
use Rattle.net_instr.specs.Machine.{exec}
use Rattle.net_sim.proofs.LoadLaws.{came_back}
use Rattle.net_sim.proofs.slots.run_noted.Goals as goal

pub returns-clause-slots : goal.returns-clause-slots
returns-clause-slots c =
    came_back c.args.slots.now c.run_noting.new.slots (c.run_noting.auto.slots ∙ ap length c.as_mut_slice-numbers.ensures.value)
    ∙ c.run_noting.ensures.slots ∙ ap (λ (xs : List ℕ). exec c.args.code.now 0 xs) c.as_mut_slice-numbers.ensures.value

pub returns-clause-kept : goal.returns-clause-kept
returns-clause-kept c = λ h.
    ap (λ (xs : List ℕ). take (c.args.span + c.args.span) xs)
    (came_back c.args.slots.now c.run_noting.new.slots (c.run_noting.auto.slots ∙ ap length c.as_mut_slice-numbers.ensures.value))
    ∙ c.run_noting.ensures.kept h ∙ ap (λ (xs : List ℕ). take (c.args.span + c.args.span) xs) c.as_mut_slice-numbers.ensures.value
