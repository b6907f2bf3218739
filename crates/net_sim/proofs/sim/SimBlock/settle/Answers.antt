use Rattle.std.proofs.Common.{ℕ, List, All, refl, ap, sym, subst, ◌∙◌, arith}
use Rattle.net_design.specs.Pins.{FitPins}
use Rattle.net_design.specs.Settled.{IsSettled}
use Rattle.net_order.specs.Run.{entered, settled_by}
use Rattle.net_order.proofs.Known.{known_ports, known_only}
use Rattle.net_instr.specs.declared.instr.Instr.{Instr}
use Rattle.net_instr.specs.Machine.{IsInstr, exec}
use Rattle.net_sim.specs.Slots.{shown_in, state_in, settling_code, clocking_code, copied}
use Rattle.net_instr.specs.InPlace.{through}
use Rattle.net_sim.proofs.SeenLaws.{settles_safe, seen_enough, copied_within, words_within, seen_settled, slots_long}
use Rattle.net_sim.proofs.SimLaws.{shown_settled, after_settling, new_settled, new_only, new_shown, new_state, new_below}
use Rattle.net_sim.proofs.sim.SimBlock.settle.Goals as goal

pub settle_slots-requires-clause-safe : goal.settle_slots-requires-clause-safe
settle_slots-requires-clause-safe c =
    let s = c.args.self.now in
    subst (λ (xs : List Instr). All (λ (i : Instr). IsInstr i) xs) (sym c.as_slice-code.ensures)
    (settles_safe s.design s.order.drivers s.places s.settling s.clocking s.placed)

pub settle_slots-requires-clause-long : goal.settle_slots-requires-clause-long
settle_slots-requires-clause-long c =
    let s = c.args.self.now in
    let long = slots_long s.design s.order.drivers s.places s.settling s.clocking s.placed s.slots s.ready.long in
    omega (arith, long, s.span_is)

pub settle_slots-requires-clause-words : goal.settle_slots-requires-clause-words
settle_slots-requires-clause-words c =
    let s = c.args.self.now in
    words_within s.design s.order.drivers s.places s.settling s.clocking s.placed s.copies.words s.copies.span s.words_is s.span_is

pub settle_slots-requires-clause-within : goal.settle_slots-requires-clause-within
settle_slots-requires-clause-within c =
    let s = c.args.self.now in
    copied_within s.design s.order.drivers s.places s.settling s.clocking s.placed s.copies.nets s.copies.words s.enough s.words_is

pub invariant_of-self : goal.invariant_of-self
invariant_of-self c =
    let s = c.args.self.now in
    record {
      lawful = s.lawful;
      ordered = s.ordered;
      placed = s.placed;
      settling_below = s.settling_below;
      clocking_below = s.clocking_below;
      enough = s.enough;
      words_is = s.words_is;
      span_is = s.span_is;
      ready = s.ready;
      first_is = s.first_is;
      is_state = s.is_state;
      are_pins = s.are_pins;
      are_outputs = s.are_outputs;
      named = s.named;
      settled = s.settled;
      quiet = s.quiet;
    }

pub invariant_of-self-2 : goal.invariant_of-self-2
invariant_of-self-2 c =
    let s = c.args.self.now in
    let d = s.design in
    let order = s.order.drivers in
    let pins = c.args.pins.now in
    let seen = through s.places s.slots in
    let new = through s.places c.settle_slots.new.slots in
    let shows = seen_enough d order s.places s.settling s.clocking s.placed s.copies.nets s.copies.words c.as_slice-code.result.now
    c.as_slice-ports.result.now c.settle_slots.new.slots
    (λ (qs : List ℕ). through qs (exec c.as_slice-code.result.now 0 (entered c.as_slice-ports.result.now pins (copied s.copies.span s.slots))))
    s.enough s.words_is c.as_slice-code.ensures c.as_slice-ports.ensures (known_ports d s.lawful) c.settle_slots.ensures in
    let e = seen_settled d order s.places s.settling s.clocking s.placed s.slots pins pins c.settle_slots.new.slots c.as_slice-code.result.now
    c.as_slice-ports.result.now s.copies.span c.as_slice-code.ensures c.as_slice-ports.ensures refl s.span_is
    (slots_long d order s.places s.settling s.clocking s.placed s.slots s.ready.long) shows in
    let f = after_settling d s.lawful order s.ordered seen pins new s.ready s.is_state c.requires s.settling_below e in
    record {
      lawful = s.lawful;
      ordered = s.ordered;
      placed = s.placed;
      settling_below = new_below d s.lawful order s.ordered seen pins new s.ready s.is_state c.requires s.settling_below e
          (settling_code d order) s.settling_below;
      clocking_below = new_below d s.lawful order s.ordered seen pins new s.ready s.is_state c.requires s.settling_below e
          (clocking_code d) s.clocking_below;
      enough = s.enough;
      words_is = s.words_is;
      span_is = s.span_is;
      ready = f.ready;
      first_is = s.first_is;
      is_state = new_state d s.lawful order s.ordered seen pins new s.ready s.is_state c.requires s.settling_below e;
      are_pins = subst (FitPins d) (sym c.copy_numbers.ensures) c.requires;
      are_outputs = s.are_outputs;
      named = s.named;
      settled = λ t.
          new_shown d s.lawful order s.ordered seen pins new s.ready s.is_state c.requires s.settling_below e
          ∙ ap (λ (xs : List ℕ). settled_by d order (state_in d new) xs) (sym c.copy_numbers.ensures);
      quiet = λ t. absurd cc;
    }

pub returns-clause-settled : goal.returns-clause-settled
returns-clause-settled c =
    let s = c.args.self.now in
    let d = s.design in
    let order = s.order.drivers in
    let pins = c.args.pins.now in
    let seen = through s.places s.slots in
    let new = through s.places c.settle_slots.new.slots in
    let shows = seen_enough d order s.places s.settling s.clocking s.placed s.copies.nets s.copies.words c.as_slice-code.result.now
    c.as_slice-ports.result.now c.settle_slots.new.slots
    (λ (qs : List ℕ). through qs (exec c.as_slice-code.result.now 0 (entered c.as_slice-ports.result.now pins (copied s.copies.span s.slots))))
    s.enough s.words_is c.as_slice-code.ensures c.as_slice-ports.ensures (known_ports d s.lawful) c.settle_slots.ensures in
    let e = seen_settled d order s.places s.settling s.clocking s.placed s.slots pins pins c.settle_slots.new.slots c.as_slice-code.result.now
    c.as_slice-ports.result.now s.copies.span c.as_slice-code.ensures c.as_slice-ports.ensures refl s.span_is
    (slots_long d order s.places s.settling s.clocking s.placed s.slots s.ready.long) shows in
    new_settled d s.lawful order s.ordered seen pins new s.ready s.is_state c.requires s.settling_below e

pub returns-clause-only : goal.returns-clause-only
returns-clause-only c =
    let s = c.args.self.now in
    let d = s.design in
    let order = s.order.drivers in
    let pins = c.args.pins.now in
    let seen = through s.places s.slots in
    let new = through s.places c.settle_slots.new.slots in
    let shows = seen_enough d order s.places s.settling s.clocking s.placed s.copies.nets s.copies.words c.as_slice-code.result.now
    c.as_slice-ports.result.now c.settle_slots.new.slots
    (λ (qs : List ℕ). through qs (exec c.as_slice-code.result.now 0 (entered c.as_slice-ports.result.now pins (copied s.copies.span s.slots))))
    s.enough s.words_is c.as_slice-code.ensures c.as_slice-ports.ensures (known_ports d s.lawful) c.settle_slots.ensures in
    let e = seen_settled d order s.places s.settling s.clocking s.placed s.slots pins pins c.settle_slots.new.slots c.as_slice-code.result.now
    c.as_slice-ports.result.now s.copies.span c.as_slice-code.ensures c.as_slice-ports.ensures refl s.span_is
    (slots_long d order s.places s.settling s.clocking s.placed s.slots s.ready.long) shows in
    new_only d s.lawful order s.ordered seen pins new s.ready s.is_state c.requires s.settling_below e

pub returns-clause-state : goal.returns-clause-state
returns-clause-state c =
    let s = c.args.self.now in
    let d = s.design in
    let order = s.order.drivers in
    let pins = c.args.pins.now in
    let seen = through s.places s.slots in
    let new = through s.places c.settle_slots.new.slots in
    let shows = seen_enough d order s.places s.settling s.clocking s.placed s.copies.nets s.copies.words c.as_slice-code.result.now
    c.as_slice-ports.result.now c.settle_slots.new.slots
    (λ (qs : List ℕ). through qs (exec c.as_slice-code.result.now 0 (entered c.as_slice-ports.result.now pins (copied s.copies.span s.slots))))
    s.enough s.words_is c.as_slice-code.ensures c.as_slice-ports.ensures (known_ports d s.lawful) c.settle_slots.ensures in
    let e = seen_settled d order s.places s.settling s.clocking s.placed s.slots pins pins c.settle_slots.new.slots c.as_slice-code.result.now
    c.as_slice-ports.result.now s.copies.span c.as_slice-code.ensures c.as_slice-ports.ensures refl s.span_is
    (slots_long d order s.places s.settling s.clocking s.placed s.slots s.ready.long) shows in
    (after_settling d s.lawful order s.ordered seen pins new s.ready s.is_state c.requires s.settling_below e).moves

pub returns-then-done-clause-settled : goal.returns-then-done-clause-settled
returns-then-done-clause-settled c =
    let s = c.args.self.now in
    let d = s.design in
    let seen = through s.places s.slots in
    let k = c.is_done-done.ensures c.if-done.true in
    subst (λ (xs : List ℕ). IsSettled d (state_in d seen) xs (shown_in d seen)) (sym (k.1 ∙ c.as_slice.ensures))
    (shown_settled d s.lawful s.order.drivers s.ordered (state_in d seen) s.pins s.is_state s.are_pins (shown_in d seen) (s.settled k.0))

pub returns-then-done-clause-only : goal.returns-then-done-clause-only
returns-then-done-clause-only c = λ v h.
    let s = c.args.self.now in
    let d = s.design in
    let seen = through s.places s.slots in
    let k = c.is_done-done.ensures c.if-done.true in
    known_only d s.lawful s.order.drivers s.ordered (state_in d seen) s.pins s.is_state s.are_pins v
    (subst (λ (xs : List ℕ). IsSettled d (state_in d seen) xs v) (k.1 ∙ c.as_slice.ensures) h)
    ∙ sym (s.settled k.0)

pub returns-then-done-clause-inputs : goal.returns-then-done-clause-inputs
returns-then-done-clause-inputs c =
    let k = c.is_done-done.ensures c.if-done.true in
    sym (k.1 ∙ c.as_slice.ensures)
