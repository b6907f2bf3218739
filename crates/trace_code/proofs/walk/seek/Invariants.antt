use Rattle.std.proofs.Common.{◌≡◌, ℕ, ◌+◌, take, length}
use Rattle.vec_clock.specs.trace_model.declared.trace.Trace.{Trace}
use Rattle.vec_clock.specs.trace_model.Packet.{count}
use Rattle.trace_code.specs.Standing.{IsAt}
use Rattle.trace_code.specs.Counted.{counted}
use Rattle.trace_code.proofs.walk.seek.Given as goal

abbrev pub invariant-packets : goal.invariant-packets
invariant-packets l = record {
  k : ℕ;
  is : (t : Trace) (p : ℕ) → IsAt t p l.initial.head.sizes.items l.fn.rest (counted l.initial.tally)
      → IsAt t (p + k) l.head.sizes.items l.here (counted l.tally);
  before : (t : Trace) (p : ℕ)
      → IsAt t p l.initial.head.sizes.items l.fn.rest (counted l.initial.tally)
      → count l.kind l.channel (take (p + k) t.packets) ≡ count l.kind l.channel (take p t.packets);
  sizes : l.head.sizes.items ≡ l.initial.head.sizes.items;
}

abbrev pub decreases-packets : goal.decreases-packets
decreases-packets l = length l.here
