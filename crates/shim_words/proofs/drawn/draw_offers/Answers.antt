use Rattle.std.proofs.Common.{length, ap, ◌∙◌}
use Rattle.shim_runs.proofs.chan_monitor_lemmas.RowOfCycle.{refill-is}
use Rattle.shim_words.proofs.DrawnLaws.{cleared}
use Rattle.shim_words.proofs.drawn.draw_offers.Goals as goal

pub returns-clause-offers : goal.returns-clause-offers
returns-clause-offers c =
    let long = c.clear_contents.auto.contents in
    let filled = refill-is c.args.offers.now.contents c.clear_contents.new.contents (long ∙ c.draw_contents.auto.contents ∙ ap length c.as_mut_slice-contents.ensures.value) in
    (cleared c.args.channels.now c.as_slice-2.result.now c.as_slice.result.now c.draw_contents.new.contents c.mask-offers.result
    c.mask-offers-2.result _ c.as_slice-2.ensures (c.as_slice.ensures ∙ c.requires.widths) c.draw_contents.ensures
    (rw c.len.ensures at c.mask-offers.ensures) (rw c.len-2.ensures at c.mask-offers-2.ensures) (filled ∙ c.clear_contents.ensures)).0

pub returns-clause-zeros : goal.returns-clause-zeros
returns-clause-zeros c =
    let long = c.clear_contents.auto.contents in
    let filled = refill-is c.args.offers.now.contents c.clear_contents.new.contents (long ∙ c.draw_contents.auto.contents ∙ ap length c.as_mut_slice-contents.ensures.value) in
    (cleared c.args.channels.now c.as_slice-2.result.now c.as_slice.result.now c.draw_contents.new.contents c.mask-offers.result
    c.mask-offers-2.result _ c.as_slice-2.ensures (c.as_slice.ensures ∙ c.requires.widths) c.draw_contents.ensures
    (rw c.len.ensures at c.mask-offers.ensures) (rw c.len-2.ensures at c.mask-offers-2.ensures) (filled ∙ c.clear_contents.ensures)).1
