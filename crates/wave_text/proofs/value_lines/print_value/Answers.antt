use Rattle.std.proofs.Common.{ℕ, List, subst}
use Rattle.wave_text.proofs.RowText.{value-parts}
use Rattle.wave_text.proofs.value_lines.print_value.Goals as goal

pub returns-then-n-ge94 : goal.returns-then-n-ge94
returns-then-n-ge94 g c = subst (λ (x : List ℕ). g.P.Page.went c.args.page.now c.print_id.new.page x) (value-parts c.args.n c.args.width c.args.x)
    (g.met.P.Page.onward _ _ _ _ _ c.print_number_of.ensures c.print_id.ensures)
