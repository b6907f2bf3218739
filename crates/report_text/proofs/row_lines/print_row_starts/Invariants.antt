use Rattle.std.proofs.Common.{◌≡◌, ℕ, take, drop, length, cond, []}
use Rattle.std.specs.List.{flat_map, enumerate_from}
use Rattle.text_page.specs.vidi_io.vidi_bits.Number.{has}
use Rattle.run_model.specs.trace_model.declared.channel.Channel.{Channel}
use Rattle.run_model.specs.trace_model.Row.{all_widths}
use Rattle.report_text.specs.Rows.{row_start}
use Rattle.report_text.proofs.row_lines.print_row_starts.Given as goal

abbrev pub invariant-loop-c : goal.invariant-loop-c
invariant-loop-c g l = record {
  text : g.P.Page.went l.initial.page l.page
      (flat_map (λ (x : ℕ × Channel). cond (has l.row.starts x.0) (row_start l.channels l.cycle l.row x) [])
      (enumerate_from 0 (take l.c l.channels)));
  rest : l.rest ≡ drop (length (all_widths (take l.c l.channels))) l.row.contents;
}
