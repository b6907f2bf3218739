use Rattle.std.proofs.Common.{get_or, ◌∙◌}
use Rattle.chan_monitor.proofs.RowOfCycle.{refill-is}
use Rattle.chan_replayer.proofs.FedOffers.{fed-by}
use Rattle.chan_replayer.proofs.offers.fill_offers.Goals as goal

pub returns : goal.returns
returns c =
    let long = c.fill_contents.auto.contents in
    let filled = refill-is c.args.offers.now.contents c.fill_contents.new.contents (rw c.as_mut_slice.ensures.value at long) in
    fed-by c.args.channels.now c.as_slice-channels.result.now (λ k. get_or c.args.have.now k 0) c.args.feed.now c.as_slice-fed.result.now _
    c.as_slice-channels.ensures c.as_slice-fed.ensures c.requires.feed c.offered-valids.ensures.valids.below c.offered-valids.ensures.valids.each
    c.offered-valids.ensures.readies.below c.offered-valids.ensures.readies.each (filled ∙ c.fill_contents.ensures)
