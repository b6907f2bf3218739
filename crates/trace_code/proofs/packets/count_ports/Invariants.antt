use Rattle.std.proofs.Common.{◌≡◌, ◌≤◌, ◌+◌, ◌*◌, drop, length}
use Rattle.vec_clock.specs.trace_model.Packet.{widths_under}
use Rattle.trace_code.proofs.PacketLoop.{widths_from}
use Rattle.trace_code.proofs.packets.count_ports.Given as goal

abbrev pub invariant-loop-c : goal.invariant-loop-c
invariant-loop-c l = record {
  counted : l.ports + length (widths_from l.c l.starts (drop l.c l.channels)) ≡ length (widths_under l.starts l.channels);
  small : l.ports ≤ 16 * l.c;
}
