use Rattle.std.proofs.Common.{◌≡◌, ◌++◌, All, length}
use Rattle.std.specs.List.{flat_map}
use Rattle.trace_v2.specs.Old.{IsOldPacket}
use Rattle.trace_code.specs.trace_model.Trace.{Alternates, InFlight}
use Rattle.trace_v2.specs.Old.{old_packet_bytes}
use Rattle.trace_v2.proofs.decoding.read_old_packets.Given as goal

abbrev pub invariant-loop-packets : goal.invariant-loop-packets
invariant-loop-packets l = record {
  each : All (IsOldPacket l.channels) l.packets;
  alternate : Alternates l.packets;
  flying : InFlight l.packets l.flying;
  parts : l.bytes ≡ flat_map (old_packet_bytes l.channels) l.packets ++ l.rest;
}

abbrev pub decreases-loop-packets : goal.decreases-loop-packets
decreases-loop-packets l = length l.rest
