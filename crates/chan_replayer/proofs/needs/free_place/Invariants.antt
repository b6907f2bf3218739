use Rattle.std.proofs.Common.{◌≢◌, ◌<◌, ◌-◌, ℕ, length, get_or}
use Rattle.chan_replayer.proofs.needs.free_place.Given as goal

abbrev pub invariant-loop-place : goal.invariant-loop-place
invariant-loop-place l = (q : ℕ) → q < l.place → get_or l.users q 0 ≢ 0

abbrev pub decreases-loop-place : goal.decreases-loop-place
decreases-loop-place l = length l.users - l.place
