use Rattle.report_text.proofs.trace_text.print_packets_line.Goals as goal

pub returns : goal.returns
returns g c =
    let on = g.met.P.Page.onward in
    on _ _ _ _ _ c.print.ensures (on _ _ _ _ _ c.print_number.ensures c.print-2.ensures)
