use Rattle.std.proofs.Common.{ℕ, List, ap, ◌∙◌}
use Rattle.net_instr.specs.Machine.{exec}
use Rattle.net_instr.specs.InPlace.{through}
use Rattle.net_sim.proofs.ShownLaws.{shown_enough}
use Rattle.net_sim.proofs.slots.settle_slots.Goals as goal

pub returns : goal.returns
returns c = λ ps lp some e.
    let k = c.args.copies.now in
    let code = c.args.code.now in
    ap (through ps) (c.run_slots.ensures ∙ ap (λ (xs : List ℕ). exec code 0 xs) c.enter.ensures)
    ∙ shown_enough ps k.nets code k.words k.span c.args.ports.now c.args.pins.now c.args.slots.now c.show_slots.new.slots c.show_slots.ensures
    c.requires.long c.requires.words c.requires.within lp some e
