use Rattle.std.proofs.Common.{length, sym, ◌∙◌, arith}
use Rattle.std.proofs.lemmas.List.{length-map}
use Rattle.net_design.specs.declared.design.Net.{Net}
use Rattle.net_design.specs.Settled.{word_count}
use Rattle.net_instr.proofs.Views.{net_at}
use Rattle.net_instr.specs.InPlace.{through}
use Rattle.net_sim.proofs.SeenLaws.{few_places, slots_long}
use Rattle.net_sim.specs.Slots.{widths_of}
use Rattle.net_sim.proofs.sim.Sim.number.Goals as goal

pub number_seen-requires : goal.number_seen-requires
number_seen-requires c =
    let s = c.args.self.now in
    let few = few_places s.design s.order.drivers s.places s.settling s.clocking s.placed in
    let many = slots_long s.design s.order.drivers s.places s.settling s.clocking s.placed s.slots s.ready.long in
    omega (arith, few, many)

pub returns : goal.returns
returns c =
    let s = c.args.self.now in
    let d = s.design in
    let long = length-map d.nets (λ (n : Net). n.width) in
    c.number_seen.ensures
    ∙ sym (net_at (length (widths_of d)) (word_count d) c.args.n (through s.places s.slots) (omega (arith, c.requires, long)))
