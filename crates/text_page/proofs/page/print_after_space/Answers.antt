use Rattle.text_page.proofs.page.print_after_space.Goals as goal

pub returns : goal.returns
returns g c = g.met.P.Page.onward _ _ _ _ _ c.print.ensures c.print_number.ensures
