use Rattle.std.proofs.Common.{◌≡◌, ◌+◌, ◌*◌, ◌≤◌, take, length, map}
use Rattle.std.specs.List.{flat_map, enumerate_from, range_with_len}
use Rattle.text_page.specs.Pad.{room}
use Rattle.report_text.specs.Trace.{epoch_clock, packet_lines}
use Rattle.report_text.proofs.trace_text.print_packets.Given as goal

abbrev pub invariant-loop-number : goal.invariant-loop-number
invariant-loop-number g l = record {
  text : g.P.Page.went l.initial.page l.page
      (flat_map (packet_lines l.trace.channels l.trace.packets) (enumerate_from 0 (take l.number l.trace.packets)));
  counts : l.completed ≡ map (epoch_clock l.trace.packets l.number) (range_with_len 0 (length l.trace.channels));
  room : 7 + 21 * length l.trace.channels ≤ room l.clock;
}
