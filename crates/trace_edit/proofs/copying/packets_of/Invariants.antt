use Rattle.std.proofs.Common.{◌≡◌, take}
use Rattle.trace_edit.proofs.copying.packets_of.Given as goal

abbrev pub invariant-loop-packet : goal.invariant-loop-packet
invariant-loop-packet l = l.copy ≡ take l.packet-index l.packets
