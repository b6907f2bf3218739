use Rattle.std.proofs.Common.{◌≡◌, take, drop, length}
use Rattle.trace_model.specs.Packet.{widths_under}
use Rattle.axi_burst.proofs.content.content.Given as goal

abbrev pub invariant-loop-c : goal.invariant-loop-c
invariant-loop-c l = l.rest ≡ drop (length (widths_under l.packet.starts (take l.c l.channels))) l.packet.contents
