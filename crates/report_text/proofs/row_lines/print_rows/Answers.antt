use Rattle.std.proofs.Common.{List, ℕ, subst}
use Rattle.report_text.specs.Rows.{row_lines}
use Rattle.text_page.proofs.Items.{more_on}
use Rattle.report_text.proofs.row_lines.print_rows.Goals as goal

pub loop-cycle-preserved : goal.loop-cycle-preserved
loop-cycle-preserved g c =
    subst (λ (x : List ℕ). g.P.Page.went c.args.page.now c.print_row.new.page x)
    (more_on (row_lines c.args.channels.now) c.args.rows.now c.loop-cycle.cycle c.index-rows-cycle.result
    c.loop-cycle-test.true c.index-rows-cycle.is)
    (g.met.P.Page.onward _ _ _ _ _ c.loop-cycle.invariant c.print_row.ensures)
