use Rattle.std.proofs.Common.{◌-◌, drop, length}
use Rattle.std.specs.List.{Contains}
use Rattle.net_order.proofs.turn.place_of.Given as goal

abbrev pub invariant-loop-place : goal.invariant-loop-place
invariant-loop-place l = Contains (drop l.place l.path) l.number

abbrev pub decreases-loop-place : goal.decreases-loop-place
decreases-loop-place l = length l.path - l.place
