use Rattle.std.proofs.Common.{◌≡◌, ◌++◌, All, length}
use Rattle.std.specs.List.{flat_map}
use Rattle.vec_clock.specs.trace_model.Epoch.{since_reset}
use Rattle.vec_clock.specs.trace_model.Packet.{IsPacket}
use Rattle.vec_clock.specs.trace_model.Trace.{AlternateThroughout, InFlight}
use Rattle.trace_code.specs.Encoding.{packet_bytes}
use Rattle.trace_code.proofs.decoding.read_packets.Given as goal

abbrev pub invariant-loop-packets : goal.invariant-loop-packets
invariant-loop-packets l = record {
  each : All (IsPacket l.channels) l.packets;
  alternate : AlternateThroughout l.packets;
  flying : InFlight (since_reset l.packets) l.flying;
  parts : l.bytes ≡ flat_map (packet_bytes l.channels) l.packets ++ l.rest;
}

abbrev pub decreases-loop-packets : goal.decreases-loop-packets
decreases-loop-packets l = length l.rest
