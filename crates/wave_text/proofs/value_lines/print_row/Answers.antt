use Rattle.std.proofs.Common.{ℕ, List, ◌∷◌, Option, option_copied, ap, sym, subst}
use Rattle.wave_text.specs.Text.{mark, row_changes, text_of}
use Rattle.wave_text.proofs.value_lines.print_row.Goals as goal

pub returns-in-Some : goal.returns-in-Some
returns-in-Some g c =
    subst (λ (before : Option (List ℕ)). g.P.Page.went c.args.page.now c.print_changed.new.page
    (text_of (mark c.args.t ∷ row_changes c.args.nets.now before c.args.row.now)))
    (sym (ap option_copied c.in-Some.is)) (g.met.P.Page.onward _ _ _ _ _ c.print_mark.ensures c.print_changed.ensures)

pub returns-in-None : goal.returns-in-None
returns-in-None g c =
    subst (λ (before : Option (List ℕ)). g.P.Page.went c.args.page.now c.print_all.new.page
    (text_of (mark c.args.t ∷ row_changes c.args.nets.now before c.args.row.now)))
    (sym (ap option_copied c.in-None.is)) (g.met.P.Page.onward _ _ _ _ _ c.print_mark.ensures c.print_all.ensures)
