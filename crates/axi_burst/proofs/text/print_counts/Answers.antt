use Rattle.axi_burst.proofs.text.print_counts.Goals as goal

pub returns : goal.returns
returns g c =
    let on = g.met.P.Page.onward in
    on _ _ _ _ _ c.print.ensures (on _ _ _ _ _ c.print_number.ensures (on _ _ _ _ _ c.print-2.ensures
    (on _ _ _ _ _ c.print_number-2.ensures c.print-3.ensures)))
