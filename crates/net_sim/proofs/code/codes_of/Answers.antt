use Rattle.std.proofs.Common.{ℕ, List, All, map, ap, sym, subst, ◌∙◌}
use Rattle.net_design.specs.declared.act.Code.{Code}
use Rattle.net_design.specs.declared.design.Driver.{Driver}
use Rattle.net_design.specs.declared.design.Net.{Net}
use Rattle.net_order.proofs.Known.{known_below}
use Rattle.net_instr.specs.Statements.{IsBlockThere}
use Rattle.net_sim.specs.Slots.{widths_of}
use Rattle.net_sim.proofs.SlotLaws.{drivers_there, blocks_there}
use Rattle.net_sim.proofs.code.codes_of.Goals as goal

pub settling_of-requires-clause-sized : goal.settling_of-requires-clause-sized
settling_of-requires-clause-sized c =
    let d = c.args.design.now in
    let widths = c.as_slice-2.ensures ∙ c.in_ok-widths.ensures ∙ ap (λ (ns : List Net). map (λ (n : Net). n.width) ns) c.as_slice.ensures in
    let words = c.in_ok-words.ensures.0 ∙ c.count_words.ensures in
    subst (λ (ws : List ℕ). All (λ (x : Driver). IsBlockThere ws c.in_ok-words.words x.code.acts) d.drivers) (sym widths)
    (subst (λ n. All (λ (x : Driver). IsBlockThere (widths_of d) n x.code.acts) d.drivers) (sym words) (drivers_there d c.requires.lawful))

pub settling_of-requires-clause-order : goal.settling_of-requires-clause-order
settling_of-requires-clause-order c =
    known_below c.args.design.now ∣ c.requires.lawful ∣₁ c.args.order.now ∣ c.requires.order ∣₁

pub clocking_of-requires-clause-sized : goal.clocking_of-requires-clause-sized
clocking_of-requires-clause-sized c =
    let d = c.args.design.now in
    let widths = c.as_slice-3.ensures ∙ c.in_ok-widths.ensures ∙ ap (λ (ns : List Net). map (λ (n : Net). n.width) ns) c.as_slice.ensures in
    let words = c.in_ok-words.ensures.0 ∙ c.count_words.ensures in
    subst (λ (ws : List ℕ). All (λ (x : Code). IsBlockThere ws c.in_ok-words.words x.acts) d.blocks) (sym widths)
    (subst (λ n. All (λ (x : Code). IsBlockThere (widths_of d) n x.acts) d.blocks) (sym words) (blocks_there d c.requires.lawful))
