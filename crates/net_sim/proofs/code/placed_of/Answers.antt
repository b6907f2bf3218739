use Rattle.std.proofs.Common.{ℕ, List, All, length, reverse, ap, sym, subst, ◌∙◌}
use Rattle.net_instr.specs.declared.instr.Instr.{Instr}
use Rattle.net_instr.specs.Machine.{IsInstr}
use Rattle.net_instr.specs.InPlace.{IsInPlace}
use Rattle.net_instr.specs.Needs.{IsEnough}
use Rattle.net_sim.specs.Slots.{settling_code, clocking_code}
use Rattle.net_sim.proofs.SimLaws.{known_settling, known_clocking}
use Rattle.net_sim.proofs.code.placed_of.Goals as goal

pub in_place-requires-clause-settling : goal.in_place-requires-clause-settling
in_place-requires-clause-settling c =
    subst (λ (xs : List Instr). All (λ (i : Instr). IsInstr i) xs) (sym c.in_ok-codes.ensures.settling)
    (known_settling c.args.design.now ∣ c.requires.lawful ∣₁ c.args.order.now)

pub in_place-requires-clause-clocking : goal.in_place-requires-clause-clocking
in_place-requires-clause-clocking c =
    subst (λ (xs : List Instr). All (λ (i : Instr). IsInstr i) xs) (sym c.in_ok-codes.ensures.clocking)
    (known_clocking c.args.design.now ∣ c.requires.lawful ∣₁)

pub returns-clause-made : goal.returns-clause-made
returns-clause-made c =
    let d = c.args.design.now in
    let order = c.args.order.now in
    let codes = c.in_ok-codes.codes in
    let made = c.in_ok-made.made in
    subst (λ n. IsInPlace n (reverse (settling_code d order)) (reverse (clocking_code d)) made.places made.settling made.clocking)
    c.in_ok-codes.ensures.nets
    (subst (λ (xs : List Instr). IsInPlace codes.nets (reverse (settling_code d order)) xs made.places made.settling made.clocking)
    c.in_ok-codes.ensures.clocking
    (subst (λ (xs : List Instr). IsInPlace codes.nets xs codes.clocking made.places made.settling made.clocking)
    c.in_ok-codes.ensures.settling c.in_ok-made.ensures))

pub needed-requires : goal.needed-requires
needed-requires c = ap (λ (ps : List ℕ). length ps) c.as_slice.ensures ∙ c.in_ok-made.ensures.long

pub returns-clause-enough : goal.returns-clause-enough
returns-clause-enough c =
    let made = c.in_ok-made.made in
    subst (λ (ps : List ℕ). IsEnough ps made.settling c.in_ok-nets.nets) c.as_slice.ensures
    (subst (λ (xs : List Instr). IsEnough c.as_slice.result.now xs c.in_ok-nets.nets) c.as_slice-code.ensures c.in_ok-nets.ensures)
