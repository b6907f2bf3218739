use Rattle.std.proofs.Common.{◌≡◌, ℕ, take, drop, length, cond, []}
use Rattle.std.specs.List.{flat_map, enumerate_from}
use Rattle.text_page.specs.vidi_io.vidi_bits.Number.{has}
use Rattle.run_model.specs.trace_model.declared.channel.Channel.{Channel}
use Rattle.run_model.specs.trace_model.Packet.{widths_under}
use Rattle.report_text.specs.Trace.{start_line}
use Rattle.report_text.proofs.trace_text.print_starts.Given as goal

abbrev pub invariant-loop-c : goal.invariant-loop-c
invariant-loop-c g l = record {
  text : g.P.Page.went l.initial.page l.page
      (flat_map (λ (x : ℕ × Channel). cond (has l.packet.starts x.0) (start_line l.channels l.number l.packet l.clock x) [])
      (enumerate_from 0 (take l.c l.channels)));
  rest : l.rest ≡ drop (length (widths_under l.packet.starts (take l.c l.channels))) l.packet.contents;
}
