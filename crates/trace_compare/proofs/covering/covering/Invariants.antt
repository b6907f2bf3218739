use Rattle.std.proofs.Common.{◌≡◌, ◌≤◌, length}
use Rattle.vec_clock.specs.Counts.{clock_counts}
use Rattle.trace_compare.proofs.FirstCovers.{Covered}
use Rattle.trace_compare.proofs.covering.covering.Given as goal

abbrev pub invariant-loop-packet : goal.invariant-loop-packet
invariant-loop-packet l = record {
  clock_a : l.clock_a ≡ clock_counts l.channels l.a l.packet-index;
  clock_b : l.clock_b ≡ clock_counts l.channels l.b l.place;
  within : l.place ≤ length l.b;
  covered : Covered l.channels l.a l.b l.packet-index l.place l.places.items;
}
