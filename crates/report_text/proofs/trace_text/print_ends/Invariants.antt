use Rattle.std.proofs.Common.{ℕ, take, cond, []}
use Rattle.std.specs.List.{flat_map, enumerate_from}
use Rattle.text_page.specs.vidi_io.vidi_bits.Number.{has}
use Rattle.run_model.specs.trace_model.declared.channel.Channel.{Channel}
use Rattle.report_text.specs.Trace.{end_line}
use Rattle.report_text.proofs.trace_text.print_ends.Given as goal

abbrev pub invariant-loop-c : goal.invariant-loop-c
invariant-loop-c g l = g.P.Page.went l.initial.page l.page
    (flat_map (λ (x : ℕ × Channel). cond (has l.packet.ends x.0) (end_line l.number l.clock x) []) (enumerate_from 0 (take l.c l.channels)))
