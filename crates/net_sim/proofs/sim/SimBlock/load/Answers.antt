use Rattle.std.proofs.Common.{◌≡◌, take, drop, replicate, length, ap, sym, subst, ◌∙◌, arith}
use Rattle.net_instr.specs.Machine.{AreBelow}
use Rattle.net_sim.specs.Slots.{settling_code, clocking_code}
use Rattle.net_instr.specs.InPlace.{through}
use Rattle.net_instr.proofs.InPlaceLaws.{seen_long}
use Rattle.net_sim.proofs.SeenLaws.{few_places, seen_state, seen_front, slots_long}
use Rattle.net_sim.proofs.PlaceLaws.{zeros_fit}
use Rattle.net_sim.proofs.LoadLaws.{loaded, loaded_state, load_ready, first_long}
use Rattle.net_sim.proofs.sim.SimBlock.load.Goals as goal

pub load_slots-requires-clause-long : goal.load_slots-requires-clause-long
load_slots-requires-clause-long c =
    let s = c.args.self.now in
    let long = slots_long s.design s.order.drivers s.places s.settling s.clocking s.placed s.slots s.ready.long in
    omega (arith, long, s.span_is)

pub load_slots-requires-clause-first : goal.load_slots-requires-clause-first
load_slots-requires-clause-first c =
    let s = c.args.self.now in
    ap length (c.as_slice.ensures ∙ s.first_is) ∙ first_long s.design s.lawful ∙ sym s.span_is

pub invariant_of-self : goal.invariant_of-self
invariant_of-self c =
    let s = c.args.self.now in
    let d = s.design in
    let order = s.order.drivers in
    let raw = c.load_slots.new.slots in
    let seen = through s.places s.slots in
    let new = through s.places raw in
    let many = slots_long d order s.places s.settling s.clocking s.placed s.slots s.ready.long in
    let few = few_places d order s.places s.settling s.clocking s.placed in
    let same = c.load_slots.ensures.long in
    let state = loaded d s.lawful new c.as_slice.result.now (c.as_slice.ensures ∙ s.first_is)
    (seen_state d order s.places s.settling s.clocking s.placed c.as_slice.result.now raw (omega (arith, many, few, same))
    (subst (λ k. take k (drop k raw) ≡ c.as_slice.result.now) s.span_is c.load_slots.ensures.state)) in
    let front = seen_front d order s.places s.settling s.clocking s.placed raw s.slots (omega (arith, many, same)) (omega (arith, many))
    (subst (λ k. take k raw ≡ take k s.slots) s.span_is c.load_slots.ensures.shown) in
    let long : length new ≡ length seen = seen_long s.places raw (omega (arith, many, few, same)) ∙ same
    ∙ sym (seen_long s.places s.slots (omega (arith, many, few))) in
    record {
      lawful = s.lawful;
      ordered = s.ordered;
      placed = s.placed;
      settling_below = subst (λ n. ∥ AreBelow n (settling_code d order) ∥₁) (sym long) s.settling_below;
      clocking_below = subst (λ n. ∥ AreBelow n (clocking_code d) ∥₁) (sym long) s.clocking_below;
      enough = s.enough;
      words_is = s.words_is;
      span_is = s.span_is;
      ready = load_ready d s.lawful seen new s.ready long front state;
      first_is = s.first_is;
      is_state = loaded_state d s.lawful new state;
      are_pins = zeros_fit d c.clear.new.numbers (c.clear.ensures ∙ ap (λ n. replicate n 0) s.are_pins.long);
      are_outputs = s.are_outputs;
      named = s.named;
      settled = λ t. absurd cc;
      quiet = λ t. absurd cc;
    }

pub returns-clause-state : goal.returns-clause-state
returns-clause-state c =
    let s = c.args.self.now in
    let d = s.design in
    let order = s.order.drivers in
    let raw = c.load_slots.new.slots in
    let many = slots_long d order s.places s.settling s.clocking s.placed s.slots s.ready.long in
    let few = few_places d order s.places s.settling s.clocking s.placed in
    let same = c.load_slots.ensures.long in
    loaded d s.lawful (through s.places raw) c.as_slice.result.now (c.as_slice.ensures ∙ s.first_is)
    (seen_state d order s.places s.settling s.clocking s.placed c.as_slice.result.now raw (omega (arith, many, few, same))
    (subst (λ k. take k (drop k raw) ≡ c.as_slice.result.now) s.span_is c.load_slots.ensures.state))
