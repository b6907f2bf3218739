use Rattle.std.proofs.Common.{ℕ, List, length, ap, ◌∙◌}
use Rattle.net_instr.specs.Machine.{exec}
use Rattle.net_sim.proofs.LoadLaws.{came_back}
use Rattle.net_sim.proofs.slots.run_slots.Goals as goal

pub returns : goal.returns
returns c =
    came_back c.args.slots.now c.run_code.new.slots (c.run_code.auto.slots ∙ ap length c.as_mut_slice.ensures.value)
    ∙ c.run_code.ensures ∙ ap (λ (xs : List ℕ). exec c.args.code.now 0 xs) c.as_mut_slice.ensures.value
