use Rattle.std.proofs.Common.{◌≡◌, ◌≤◌, take}
use Rattle.run_model.specs.trace_model.declared.event.Kind.TheVariants.{End}
use Rattle.run_model.specs.trace_model.Packet.{count}
use Rattle.run_reference.proofs.waiting.clock.Given as goal

abbrev pub invariant-loop-packet : goal.invariant-loop-packet
invariant-loop-packet l = record { count : l.count ≡ count End l.c (take l.packet-index l.packet-items); few : l.count ≤ l.packet-index }
