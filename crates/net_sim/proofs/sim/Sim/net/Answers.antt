use Rattle.std.proofs.Common.{◌<◌, List, All, length, sym, subst, ◌∙◌, arith}
use Rattle.std.proofs.lemmas.List.{length-map}
use Rattle.std.proofs.lemmas.Option.{slice_get_within}
use Rattle.net_design.specs.Names.{AreAfterParents}
use Rattle.net_design.specs.declared.design.Instance.{Instance}
use Rattle.net_design.specs.declared.design.Net.{Net}
use Rattle.net_design.specs.Settled.{word_count}
use Rattle.net_order.proofs.Known.{known_parents, known_instances}
use Rattle.net_instr.proofs.Views.{net_at}
use Rattle.net_instr.specs.InPlace.{through}
use Rattle.net_sim.proofs.SeenLaws.{few_places, slots_long}
use Rattle.net_sim.specs.Names.{IsCalled}
use Rattle.net_sim.specs.Table.{IsTable}
use Rattle.net_sim.specs.Slots.{widths_of}
use Rattle.net_sim.proofs.sim.Sim.net.Goals as goal

pub net_called-requires-clause-parents : goal.net_called-requires-clause-parents
net_called-requires-clause-parents c =
    let s = c.args.self.now in
    subst (λ (is : List Instance). AreAfterParents is) (sym c.as_slice.ensures) (known_parents s.design s.lawful)

pub net_called-requires-clause-within : goal.net_called-requires-clause-within
net_called-requires-clause-within c =
    let s = c.args.self.now in
    subst (λ (is : List Instance). All (λ (n : Net). n.instance < length is) c.as_slice-2.result.now) (sym c.as_slice.ensures)
    (subst (λ (ns : List Net). All (λ (n : Net). n.instance < length s.design.instances) ns) (sym c.as_slice-2.ensures)
    (known_instances s.design s.lawful))

pub net_called-requires-clause-table : goal.net_called-requires-clause-table
net_called-requires-clause-table c =
    let s = c.args.self.now in
    subst (λ (is : List Instance). IsTable is c.as_slice-2.result.now (length c.as_slice-2.result.now) s.names.entries)
    (sym c.as_slice.ensures)
    (subst (λ (ns : List Net). IsTable s.design.instances ns (length ns) s.names.entries) (sym c.as_slice-2.ensures) s.named)

pub number_seen-requires : goal.number_seen-requires
number_seen-requires c =
    let s = c.args.self.now in
    let few = few_places s.design s.order.drivers s.places s.settling s.clocking s.placed in
    let many = slots_long s.design s.order.drivers s.places s.settling s.clocking s.placed s.slots s.ready.long in
    omega (arith, few, many)

pub returns-in-None : goal.returns-in-None
returns-in-None c = λ m h.
    let d = c.args.self.now.design in
    let name = c.args.name.now in
    c.in-None.ensures m (subst (λ (is : List Instance). IsCalled is c.as_slice-2.result.now name m) (sym c.as_slice.ensures)
    (subst (λ (ns : List Net). IsCalled d.instances ns name m) (sym c.as_slice-2.ensures) h))

pub returns-in-Some : goal.returns-in-Some
returns-in-Some c =
    let s = c.args.self.now in
    let d = s.design in
    let name = c.args.name.now in
    let m = c.in-Some.m in
    let called = subst (λ (ns : List Net). IsCalled d.instances ns name m) c.as_slice-2.ensures
    (subst (λ (is : List Instance). IsCalled is c.as_slice-2.result.now name m) c.as_slice.ensures c.in-Some.ensures) in
    let l = slice_get_within d.nets m called.0 called.1 in
    let long = length-map d.nets (λ (n : Net). n.width) in
    (m, called, c.number_seen.ensures ∙ sym (net_at (length (widths_of d)) (word_count d) m (through s.places s.slots) (omega (arith, l, long))))
