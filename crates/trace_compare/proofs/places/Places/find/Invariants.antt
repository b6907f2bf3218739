use Rattle.std.proofs.Common.{◌≡◌, ◌++◌, drop, map}
use Rattle.vec_clock.specs.trace_model.declared.event.Kind.TheVariants.{Start, End}
use Rattle.trace_compare.specs.Findings.{events_from}
use Rattle.trace_compare.specs.Walking.{places}
use Rattle.trace_compare.proofs.EventPlaces.{place}
use Rattle.trace_compare.proofs.places.Places.find.Given as goal

abbrev pub invariant-loop-at : goal.invariant-loop-at
invariant-loop-at l = record {
  starts : l.self.starts.items ++ map place (events_from Start l.channel l.at (drop l.at l.packets)) ≡ places Start l.channel l.packets;
  ends : l.self.ends.items ++ map place (events_from End l.channel l.at (drop l.at l.packets)) ≡ places End l.channel l.packets;
}
