use Rattle.std.proofs.Common.{List, ℕ, subst}
use Rattle.run_model.specs.trace_model.declared.channel.Channel.{Channel}
use Rattle.report_text.specs.Trace.{channel_lines, packets_line}
use Rattle.report_text.proofs.trace_text.print_trace.Goals as goal

pub returns : goal.returns
returns g c =
    let on = g.met.P.Page.onward in
    let channels = subst (λ (cs : List Channel). g.P.Page.went c.args.page.now c.print_channels.new.page (channel_lines 0 cs))
    c.as_slice.ensures c.print_channels.ensures in
    let last = subst (λ (n : ℕ). g.P.Page.went c.print_packets.new.page c.print_packets_line.new.page (packets_line n)) c.len.ensures
    c.print_packets_line.ensures in
    on _ _ _ _ _ channels (on _ _ _ _ _ c.print_packets.ensures last)
