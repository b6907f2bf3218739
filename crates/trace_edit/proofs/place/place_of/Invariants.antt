use Rattle.std.proofs.Common.{◌≡◌, ◌+◌, take}
use Rattle.trace_model.specs.declared.event.Kind.TheVariants.{End}
use Rattle.trace_model.specs.Packet.{count}
use Rattle.trace_edit.proofs.place.place_of.Given as goal

abbrev pub invariant-loop-at : goal.invariant-loop-at
invariant-loop-at l = l.left + count End l.end.channel (take l.at l.packets) ≡ l.end.index
