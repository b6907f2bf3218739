use Rattle.std.proofs.Common.{◌≡◌, ◌≤◌, ◌*◌, length, take}
use Rattle.run_model.specs.trace_model.Packet.{widths_under}
use Rattle.run_reference.proofs.replay.packet_first.Given as goal

abbrev pub invariant-loop-i : goal.invariant-loop-i
invariant-loop-i l = record {
  sum : l.first ≡ length (widths_under l.starts (take l.i l.channels));
  few : l.first ≤ 16 * l.i;
}
