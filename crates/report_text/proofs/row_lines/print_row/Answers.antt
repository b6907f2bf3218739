use Rattle.report_text.proofs.row_lines.print_row.Goals as goal

pub returns : goal.returns
returns g c =
    let on = g.met.P.Page.onward in
    on _ _ _ _ _ c.print_reset.ensures (on _ _ _ _ _ c.print_row_starts.ensures c.print_row_ends.ensures)
