use Rattle.std.proofs.Common.{ℕ, ◌<◌, ◌≤◌, length, slice_index}
use Rattle.net_order.proofs.turn.least_from.Given as goal

abbrev pub invariant-loop-place : goal.invariant-loop-place
invariant-loop-place l = record {
  from : l.from ≤ l.least;
  within : l.least < length l.path;
  least : (t : ℕ) → l.from ≤ t → t < l.place → slice_index l.path l.least ≤ slice_index l.path t;
}
