use Rattle.std.proofs.Common.{get_or, length}
use Rattle.vec_clock.specs.trace_model.declared.channel.Dir.TheVariants.{Inward, Outward}
use Rattle.chan_replayer.specs.Feed.{IsUp}
use Rattle.chan_replayer.proofs.FedOffers.{AreMarked}
use Rattle.chan_replayer.proofs.offers.offered.Given as goal

abbrev pub invariant-up : goal.invariant-up
invariant-up l = record {
  valids : AreMarked l.channels Inward (IsUp (length l.channels) l.feed (λ k. get_or l.have k 0)) l.left l.valids;
  readies : AreMarked l.channels Outward (IsUp (length l.channels) l.feed (λ k. get_or l.have k 0)) l.left l.readies;
}

abbrev pub decreases-up : goal.decreases-up
decreases-up l = l.left
