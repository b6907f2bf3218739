use Rattle.std.proofs.Common.{◌≡◌, ℕ, ◌<◌, List, All, take, drop, reverse, replicate, length, ap, sym, subst, ◌∙◌, arith}
use Rattle.net_design.specs.declared.design.Instance.{Instance}
use Rattle.net_design.specs.declared.design.Net.{Net}
use Rattle.net_design.specs.declared.design.Port.{Port}
use Rattle.net_design.specs.declared.design.Direction.TheVariants.{Input, Output}
use Rattle.net_instr.specs.Machine.{AreBelow}
use Rattle.net_sim.specs.Places.{port_places}
use Rattle.net_sim.specs.Slots.{settling_code, clocking_code, span_of}
use Rattle.net_order.proofs.Known.{known_parents, known_instances}
use Rattle.net_sim.proofs.TableLaws.{table_named}
use Rattle.std.proofs.lemmas.List.{length-replicate}
use Rattle.net_design.specs.Names.{AreAfterParents}
use Rattle.net_instr.specs.InPlace.{through, IsInPlace}
use Rattle.net_instr.proofs.InPlaceLaws.{seen_long}
use Rattle.net_sim.proofs.SeenLaws.{few_places, seen_state, seen_front, seen_zeros}
use Rattle.net_sim.proofs.PlaceLaws.{zeros_fit, inputs_counted}
use Rattle.net_sim.proofs.LoadLaws.{loaded, loaded_state, first_ready, first_long}
use Rattle.net_sim.proofs.sim.Sim.new.Goals as goal

pub invariant_of-result : goal.invariant_of-result
invariant_of-result c =
    let d = c.args.design in
    let law = c.requires.lawful in
    let order = c.args.order.drivers in
    let codes = c.in_ok-codes.codes in
    let made = codes.made in
    let raw = c.in_ok-slots.slots in
    let new = through made.places raw in
    let same = c.as_slice.ensures in
    let span = c.in_ok-codes.ensures.span in
    let most = c.in_ok-codes.ensures.slots in
    let first = c.as_slice-2.ensures ∙ c.in_ok-first.ensures in
    let placed : ∥ IsInPlace (length d.nets) (reverse (settling_code d order)) (reverse (clocking_code d)) made.places made.settling made.clocking ∥₁
    = ∣ subst (λ (xs : List ℕ). IsInPlace (length d.nets) (reverse (settling_code d xs)) (reverse (clocking_code d)) made.places
    made.settling made.clocking) same c.in_ok-codes.ensures.made ∣₁ in
    let few = few_places d order made.places made.settling made.clocking placed in
    let count = c.in_ok-slots.ensures.long in
    let long : length new ≡ codes.slots = seen_long made.places raw (omega (arith, few, count, most)) ∙ count in
    let zeros : length (replicate {A = ℕ} codes.slots 0) ≡ codes.slots = length-replicate {A = ℕ} codes.slots 0 in
    let state = loaded d ∣ law ∣₁ new c.as_slice-2.result.now first
    (seen_state d order made.places made.settling made.clocking placed c.as_slice-2.result.now raw (omega (arith, few, count, most))
    (subst (λ k. take k (drop k raw) ≡ c.as_slice-2.result.now) span c.in_ok-slots.ensures.state)) in
    let front = seen_front d order made.places made.settling made.clocking placed raw (replicate codes.slots 0)
    (omega (arith, few, count, most)) (omega (arith, zeros, most))
    (subst (λ k. take k raw ≡ take k (replicate codes.slots 0)) span c.in_ok-slots.ensures.shown)
    ∙ ap (take (span_of d)) (seen_zeros d order made.places made.settling made.clocking placed codes.slots (omega (arith, most))) in
    record {
      lawful = ∣ law ∣₁;
      ordered = ∣ c.requires.order ∣₁;
      placed = placed;
      settling_below = ∣ subst (λ n. AreBelow n (settling_code d order)) (sym long)
          (subst (λ (xs : List ℕ). AreBelow codes.slots (settling_code d xs)) same c.in_ok-codes.ensures.settling_below) ∣₁;
      clocking_below = ∣ subst (λ n. AreBelow n (clocking_code d)) (sym long) c.in_ok-codes.ensures.clocking_below ∣₁;
      enough = ∣ c.in_ok-codes.ensures.enough ∣₁;
      words_is = c.in_ok-codes.ensures.words;
      span_is = span;
      ready = first_ready d ∣ law ∣₁ codes.slots new c.in_ok-codes.ensures.slots long front state;
      first_is = c.in_ok-first.ensures;
      is_state = loaded_state d ∣ law ∣₁ new state;
      are_pins = zeros_fit d c.in_ok-pins.pins (c.in_ok-pins.ensures
          ∙ ap (λ n. replicate n 0) (ap (λ (ports : List Port). length (port_places Input 0 ports)) c.as_slice-3.ensures
          ∙ inputs_counted d));
      are_outputs = c.in_ok-outputs.ensures ∙ ap (λ (ports : List Port). port_places Output 0 ports) c.as_slice-4.ensures;
      named = table_named d c.as_slice-5.result.now c.as_slice-6.result.now c.in_ok-names.names.entries c.as_slice-5.ensures
          c.as_slice-6.ensures c.in_ok-names.ensures;
      settled = λ t. absurd cc;
      quiet = λ t. absurd cc;
    }

pub table_of-requires-clause-parents : goal.table_of-requires-clause-parents
table_of-requires-clause-parents c =
    subst (λ (is : List Instance). AreAfterParents is) (sym c.as_slice-5.ensures) (known_parents c.args.design ∣ c.requires.lawful ∣₁)

pub table_of-requires-clause-within : goal.table_of-requires-clause-within
table_of-requires-clause-within c =
    subst (λ (is : List Instance). All (λ (n : Net). n.instance < length is) c.as_slice-6.result.now) (sym c.as_slice-5.ensures)
    (subst (λ (ns : List Net). All (λ (n : Net). n.instance < length c.args.design.instances) ns) (sym c.as_slice-6.ensures)
    (known_instances c.args.design ∣ c.requires.lawful ∣₁))

pub first_slots-requires-clause-first : goal.first_slots-requires-clause-first
first_slots-requires-clause-first c =
    ap length (c.as_slice-2.ensures ∙ c.in_ok-first.ensures) ∙ first_long c.args.design ∣ c.requires.lawful ∣₁
    ∙ sym c.in_ok-codes.ensures.span

pub returns-clause-state : goal.returns-clause-state
returns-clause-state c =
    let d = c.args.design in
    let order = c.args.order.drivers in
    let codes = c.in_ok-codes.codes in
    let made = codes.made in
    let raw = c.in_ok-slots.slots in
    let most = c.in_ok-codes.ensures.slots in
    let placed : ∥ IsInPlace (length d.nets) (reverse (settling_code d order)) (reverse (clocking_code d)) made.places made.settling made.clocking ∥₁
    = ∣ subst (λ (xs : List ℕ). IsInPlace (length d.nets) (reverse (settling_code d xs)) (reverse (clocking_code d)) made.places
    made.settling made.clocking) c.as_slice.ensures c.in_ok-codes.ensures.made ∣₁ in
    let few = few_places d order made.places made.settling made.clocking placed in
    let count = c.in_ok-slots.ensures.long in
    loaded d ∣ c.requires.lawful ∣₁ (through made.places raw) c.as_slice-2.result.now (c.as_slice-2.ensures ∙ c.in_ok-first.ensures)
    (seen_state d order made.places made.settling made.clocking placed c.as_slice-2.result.now raw (omega (arith, few, count, most))
    (subst (λ k. take k (drop k raw) ≡ c.as_slice-2.result.now) c.in_ok-codes.ensures.span c.in_ok-slots.ensures.state))
