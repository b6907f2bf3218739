use Rattle.std.proofs.Common.{◌≡◌, ◌-◌, ◌≤◌, ◌++◌}
use Rattle.net_order.specs.Turn.{down}
use Rattle.net_order.proofs.turn.push_down.Given as goal

abbrev pub invariant-loop-place : goal.invariant-loop-place
invariant-loop-place l = record {
  low : l.low ≤ l.place;
  high : l.place ≤ l.high;
  same : l.out ++ down l.path l.low (l.place - l.low) ≡ l.initial.out ++ down l.path l.low (l.high - l.low);
}

abbrev pub decreases-loop-place : goal.decreases-loop-place
decreases-loop-place l = l.place - l.low
