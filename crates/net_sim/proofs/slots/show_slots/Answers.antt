use Rattle.std.proofs.Common.{ℕ, ◌<◌, List, All, length, ap, sym, subst, ◌∙◌, arith}
use Rattle.net_sim.proofs.LoadLaws.{came_back}
use Rattle.net_sim.proofs.ShownLaws.{shown_both}
use Rattle.net_sim.proofs.slots.show_slots.Goals as goal

pub show_nets-requires-clause-within : goal.show_nets-requires-clause-within
show_nets-requires-clause-within c =
    let k = c.args.copies.now in
    subst (λ (ms : List ℕ). All (λ m. m < k.span) ms) (sym c.as_slice.ensures)
    (λ i d h. let w = c.requires.within i d h in omega (arith, w, c.requires.words))

pub returns : goal.returns
returns c =
    let k = c.args.copies.now in
    let lent = c.as_mut_slice-numbers.ensures.value in
    let long = c.show_words.auto.slots ∙ c.show_nets.auto.slots in
    shown_both k.nets c.as_slice.result.now k.words k.span c.args.slots.now _ c.show_nets.new.slots c.show_words.new.slots _ c.as_slice.ensures lent
    (came_back c.args.slots.now c.show_words.new.slots (long ∙ ap length lent)) long c.requires.within c.show_nets.ensures.nets
    c.show_nets.ensures.behind c.show_words.ensures.words c.show_words.ensures.nets c.show_words.ensures.behind
