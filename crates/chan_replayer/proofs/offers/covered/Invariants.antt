use Rattle.std.proofs.Common.{length, get_or}
use Rattle.vec_clock.specs.trace_model.Clock.{Covers}
use Rattle.chan_replayer.specs.Needs.{clock_at}
use Rattle.chan_replayer.proofs.Covering.{AreCovered}
use Rattle.chan_replayer.proofs.offers.covered.Given as goal

abbrev pub invariant-left : goal.invariant-left
invariant-left l = AreCovered (λ c. Covers (length l.have) (λ d. get_or l.have d 0) (λ d. get_or (clock_at (length l.have) l.needs c) d 0))
    l.which l.left l.covered

abbrev pub decreases-left : goal.decreases-left
decreases-left l = l.left
