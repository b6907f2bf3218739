use Rattle.std.proofs.Common.{ℕ, ◌+◌, not, IsTrue, if◌then◌else◌, List, All, sym, subst, arith}
use Rattle.net_instr.specs.declared.instr.Instr.{Instr}
use Rattle.net_order.specs.Run.{entered}
use Rattle.net_order.proofs.Known.{known_ports}
use Rattle.net_instr.specs.Machine.{IsInstr, AreBelow, exec}
use Rattle.net_sim.specs.Slots.{settling_code, clocking_code, copied}
use Rattle.net_instr.specs.InPlace.{through}
use Rattle.net_sim.proofs.SeenLaws.{settles_safe, clocks_safe, seen_enough, copied_within, words_within, seen_again, seen_both, seen_clocked, slots_long, mid_long}
use Rattle.net_sim.proofs.ShownLaws.{not_true}
use Rattle.net_sim.proofs.SimLaws.{again, clock_moves, clock_long, clock_is, clock_next, stays_settled, stays_next, still_next}
use Rattle.net_sim.proofs.sim.SimBlock.clock.Goals as goal

pub settle_again-requires-clause-safe : goal.settle_again-requires-clause-safe
settle_again-requires-clause-safe c =
    let s = c.args.self.now in
    subst (λ (xs : List Instr). All (λ (i : Instr). IsInstr i) xs) (sym c.as_slice-code.ensures)
    (settles_safe s.design s.order.drivers s.places s.settling s.clocking s.placed)

pub settle_again-requires-clause-long : goal.settle_again-requires-clause-long
settle_again-requires-clause-long c =
    let s = c.args.self.now in
    let long = slots_long s.design s.order.drivers s.places s.settling s.clocking s.placed s.slots s.ready.long in
    omega (arith, long, s.span_is)

pub settle_again-requires-clause-words : goal.settle_again-requires-clause-words
settle_again-requires-clause-words c =
    let s = c.args.self.now in
    words_within s.design s.order.drivers s.places s.settling s.clocking s.placed s.copies.words s.copies.span s.words_is s.span_is

pub settle_again-requires-clause-within : goal.settle_again-requires-clause-within
settle_again-requires-clause-within c =
    let s = c.args.self.now in
    copied_within s.design s.order.drivers s.places s.settling s.clocking s.placed s.copies.nets s.copies.words s.enough s.words_is

pub run_noted-moved-requires-clause-safe : goal.run_noted-moved-requires-clause-safe
run_noted-moved-requires-clause-safe c =
    let s = c.args.self.now in
    subst (λ (xs : List Instr). All (λ (i : Instr). IsInstr i) xs) (sym c.as_slice.ensures)
    (clocks_safe s.design s.order.drivers s.places s.settling s.clocking s.placed)

pub run_noted-moved-requires-clause-long : goal.run_noted-moved-requires-clause-long
run_noted-moved-requires-clause-long c =
    let s = c.args.self.now in
    let d = s.design in
    let order = s.order.drivers in
    let seen = through s.places s.slots in
    let mid = through s.places c.settle_again.new.slots in
    let many = slots_long d order s.places s.settling s.clocking s.placed s.slots s.ready.long in
    let shows = seen_enough d order s.places s.settling s.clocking s.placed s.copies.nets s.copies.words c.as_slice-code.result.now
    c.as_slice-ports.result.now c.settle_again.new.slots
    (λ (qs : List ℕ). if s.fresh then through qs s.slots else through qs (exec c.as_slice-code.result.now 0
    (entered c.as_slice-ports.result.now c.as_slice-pins.result.now (copied s.copies.span s.slots))))
    s.enough s.words_is c.as_slice-code.ensures c.as_slice-ports.ensures (known_ports d s.lawful) c.settle_again.ensures in
    let a = seen_again d order s.places s.settling s.clocking s.placed s.fresh s.slots s.pins c.as_slice-pins.result.now
    c.settle_again.new.slots c.as_slice-code.result.now c.as_slice-ports.result.now s.copies.span c.as_slice-code.ensures
    c.as_slice-ports.ensures c.as_slice-pins.ensures s.span_is many shows in
    let f = again d s.lawful order seen s.pins s.ready s.is_state s.are_pins s.settling_below s.fresh mid s.settled a in
    let mids = slots_long d order s.places s.settling s.clocking s.placed c.settle_again.new.slots (omega (arith, f.long, s.ready.long)) in
    omega (arith, mids, s.span_is)

pub invariant_of-self : goal.invariant_of-self
invariant_of-self c =
    let s = c.args.self.now in
    let d = s.design in
    let order = s.order.drivers in
    let seen = through s.places s.slots in
    let mid = through s.places c.settle_again.new.slots in
    let new = through s.places c.run_noted-moved.new.slots in
    let many = slots_long d order s.places s.settling s.clocking s.placed s.slots s.ready.long in
    let shows = seen_enough d order s.places s.settling s.clocking s.placed s.copies.nets s.copies.words c.as_slice-code.result.now
    c.as_slice-ports.result.now c.settle_again.new.slots
    (λ (qs : List ℕ). if s.fresh then through qs s.slots else through qs (exec c.as_slice-code.result.now 0
    (entered c.as_slice-ports.result.now c.as_slice-pins.result.now (copied s.copies.span s.slots))))
    s.enough s.words_is c.as_slice-code.ensures c.as_slice-ports.ensures (known_ports d s.lawful) c.settle_again.ensures in
    let a = seen_again d order s.places s.settling s.clocking s.placed s.fresh s.slots s.pins c.as_slice-pins.result.now
    c.settle_again.new.slots c.as_slice-code.result.now c.as_slice-ports.result.now s.copies.span c.as_slice-code.ensures
    c.as_slice-ports.ensures c.as_slice-pins.ensures s.span_is many shows in
    let f = again d s.lawful order seen s.pins s.ready s.is_state s.are_pins s.settling_below s.fresh mid s.settled a in
    let there = mid_long d order s.places s.settling s.clocking s.placed c.settle_again.new.slots seen f.long s.ready.long in
    let e = seen_clocked d order s.places s.settling s.clocking s.placed c.settle_again.new.slots c.run_noted-moved.new.slots c.as_slice.result.now
    c.as_slice.ensures there c.run_noted-moved.ensures.slots in
    let long = clock_long d s.lawful order s.ordered seen s.pins mid new s.is_state s.are_pins s.clocking_below f e in
    let longs = slots_long d order s.places s.settling s.clocking s.placed c.run_noted-moved.new.slots (omega (arith, long, s.ready.long)) in
    let mids = slots_long d order s.places s.settling s.clocking s.placed c.settle_again.new.slots (omega (arith, f.long, s.ready.long)) in
    let stays = λ (t : IsTrue (not c.run_noted-moved.result)).
    seen_both d order s.places s.settling s.clocking s.placed c.run_noted-moved.new.slots c.settle_again.new.slots
    (s.copies.span + s.copies.span) (omega (arith, s.span_is)) (omega (arith, longs, s.span_is)) (omega (arith, mids, s.span_is))
    (c.run_noted-moved.ensures.kept (not_true c.run_noted-moved.result t)) in
    record {
      lawful = s.lawful;
      ordered = s.ordered;
      placed = s.placed;
      settling_below = subst (λ n. ∥ AreBelow n (settling_code d order) ∥₁) (sym long) s.settling_below;
      clocking_below = subst (λ n. ∥ AreBelow n (clocking_code d) ∥₁) (sym long) s.clocking_below;
      enough = s.enough;
      words_is = s.words_is;
      span_is = s.span_is;
      ready = (clock_moves d s.lawful order s.ordered seen s.pins mid new s.is_state s.are_pins s.clocking_below f e).ready;
      first_is = s.first_is;
      is_state = clock_is d s.lawful order s.ordered seen s.pins mid new s.is_state s.are_pins s.clocking_below f e;
      are_pins = s.are_pins;
      are_outputs = s.are_outputs;
      named = s.named;
      settled = λ t. stays_settled d s.lawful order s.ordered seen s.pins mid new s.is_state s.are_pins s.clocking_below f e (stays t);
      quiet = λ t. (t, stays_next d s.lawful order s.ordered seen s.pins mid new s.is_state s.are_pins s.clocking_below f e (stays t));
    }

pub returns-clause-state : goal.returns-clause-state
returns-clause-state c = λ v h.
    let s = c.args.self.now in
    let d = s.design in
    let order = s.order.drivers in
    let seen = through s.places s.slots in
    let mid = through s.places c.settle_again.new.slots in
    let new = through s.places c.run_noted-moved.new.slots in
    let many = slots_long d order s.places s.settling s.clocking s.placed s.slots s.ready.long in
    let shows = seen_enough d order s.places s.settling s.clocking s.placed s.copies.nets s.copies.words c.as_slice-code.result.now
    c.as_slice-ports.result.now c.settle_again.new.slots
    (λ (qs : List ℕ). if s.fresh then through qs s.slots else through qs (exec c.as_slice-code.result.now 0
    (entered c.as_slice-ports.result.now c.as_slice-pins.result.now (copied s.copies.span s.slots))))
    s.enough s.words_is c.as_slice-code.ensures c.as_slice-ports.ensures (known_ports d s.lawful) c.settle_again.ensures in
    let a = seen_again d order s.places s.settling s.clocking s.placed s.fresh s.slots s.pins c.as_slice-pins.result.now
    c.settle_again.new.slots c.as_slice-code.result.now c.as_slice-ports.result.now s.copies.span c.as_slice-code.ensures
    c.as_slice-ports.ensures c.as_slice-pins.ensures s.span_is many shows in
    let f = again d s.lawful order seen s.pins s.ready s.is_state s.are_pins s.settling_below s.fresh mid s.settled a in
    let there = mid_long d order s.places s.settling s.clocking s.placed c.settle_again.new.slots seen f.long s.ready.long in
    let e = seen_clocked d order s.places s.settling s.clocking s.placed c.settle_again.new.slots c.run_noted-moved.new.slots c.as_slice.result.now
    c.as_slice.ensures there c.run_noted-moved.ensures.slots in
    clock_next d s.lawful order s.ordered seen s.pins mid new s.is_state s.are_pins s.clocking_below f e v h

pub returns-then-self-clause-state : goal.returns-then-self-clause-state
returns-then-self-clause-state c = λ v h.
    let s = c.args.self.now in
    let q = s.quiet c.if-self.true in
    still_next s.design s.lawful s.order.drivers s.ordered (through s.places s.slots) s.pins s.is_state s.are_pins (s.settled q.0) q.1 v h
