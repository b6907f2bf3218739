use Rattle.std.proofs.Common.{◌≡◌, ◌++◌, take}
use Rattle.std.specs.List.{flat_map}
use Rattle.trace_code.specs.Encoding.{packet_bytes}
use Rattle.trace_code.proofs.encoding.push_packets.Given as goal

abbrev pub invariant-loop-packet : goal.invariant-loop-packet
invariant-loop-packet l = l.out.items ≡ l.fn.out.items ++ flat_map (packet_bytes l.channels) (take l.packet-index l.packets)
