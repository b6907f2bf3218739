use Rattle.wave_text.proofs.value_lines.print_mark.Goals as goal

pub returns : goal.returns
returns g c = g.met.P.Page.onward _ _ _ _ _ c.print_byte.ensures (g.met.P.Page.onward _ _ _ _ _ c.print_number.ensures c.print_byte-2.ensures)
