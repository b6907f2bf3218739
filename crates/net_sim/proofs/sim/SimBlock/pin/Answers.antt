use Rattle.std.proofs.Common.{ℕ, ◌<◌, List, length, slice_index, ap, sym, ◌∙◌, refl, arith}
use Rattle.std.proofs.lemmas.List.{length-map, length-take-le}
use Rattle.net_design.specs.declared.design.Net.{Net}
use Rattle.net_design.specs.declared.design.Direction.TheVariants.{Output}
use Rattle.net_design.specs.Settled.{word_count}
use Rattle.net_order.proofs.Known.{known_ports}
use Rattle.net_instr.proofs.Views.{net_at}
use Rattle.net_sim.specs.Places.{port_places}
use Rattle.net_sim.specs.Slots.{widths_of, shown_in}
use Rattle.net_instr.specs.InPlace.{through}
use Rattle.net_sim.proofs.SeenLaws.{few_places, slots_long}
use Rattle.net_sim.proofs.PlaceLaws.{places_count, pins_at, place_below}
use Rattle.net_sim.proofs.sim.SimBlock.pin.Goals as goal

pub bounds-outputs-port : goal.bounds-outputs-port
bounds-outputs-port c =
    let s = c.args.self.now in
    let e = ap length (c.as_slice-outputs.ensures ∙ s.are_outputs) in
    let n = places_count Output 0 s.design.ports in
    omega (arith, e, n, c.requires)

pub returns : goal.returns
returns c =
    let s = c.args.self.now in
    let d = s.design in
    let ports = d.ports in
    let seen = through s.places s.slots in
    let e = c.as_slice-outputs.ensures ∙ s.are_outputs in
    let n = places_count Output 0 ports in
    let few = known_ports d s.lawful in
    let long = length-map d.nets (λ (x : Net). x.width) in
    let ready = s.ready.long in
    let inside : c.args.port < length (port_places Output 0 ports) = omega (arith, n, c.requires) in
    let there = place_below Output 0 ports c.args.port inside in
    let nets = (shown_in d seen).nets in
    let many = length-take-le (length (widths_of d)) seen (omega (arith, ready)) in
    c.number_seen.ensures
    ∙ ap (λ (ps : List ℕ). slice_index seen (slice_index ps c.args.port)) e
    ∙ sym (net_at (length (widths_of d)) (word_count d) (slice_index (port_places Output 0 ports) c.args.port) seen
    (omega (arith, there, few, long)))
    ∙ sym (pins_at Output ports 0 nets nets refl (omega (arith, few, long, many)) c.args.port inside)

pub number_seen-requires : goal.number_seen-requires
number_seen-requires c =
    let s = c.args.self.now in
    let few = few_places s.design s.order.drivers s.places s.settling s.clocking s.placed in
    let many = slots_long s.design s.order.drivers s.places s.settling s.clocking s.placed s.slots s.ready.long in
    omega (arith, few, many)
