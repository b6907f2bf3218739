use Rattle.report_text.proofs.trace_text.print_packet.Goals as goal

pub returns : goal.returns
returns g c =
    let on = g.met.P.Page.onward in
    on _ _ _ _ _ c.print_gap.ensures (on _ _ _ _ _ c.print_reset.ensures
    (on _ _ _ _ _ c.print_starts.ensures c.print_ends.ensures))
