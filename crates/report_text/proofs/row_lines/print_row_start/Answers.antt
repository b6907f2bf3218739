use Rattle.std.proofs.Common.{Bool, List, ℕ, [], ◌++◌, cond, codes, decimal, sym, subst}
use Rattle.report_text.specs.Text.{newline, spaced}
use Rattle.report_text.proofs.row_lines.print_row_start.Goals as goal

pub returns : goal.returns
returns g c =
    let on = g.met.P.Page.onward in
    let name = subst (λ (x : List ℕ). g.P.Page.went c.print.new.self c.print-2.new.self x) c.as_slice.ensures c.print-2.ensures in
    let line = on _ _ _ _ _ c.print_number.ensures (on _ _ _ _ _ c.print.ensures (on _ _ _ _ _ name
    (on _ _ _ _ _ c.print_numbers.ensures c.print-3.ensures))) in
    subst (λ (b : Bool). g.P.Page.went c.args.page.now c.print-3.new.self
    (cond b (decimal c.args.cycle ++ (codes " start " ++ (c.args.channel.now.name ++ (spaced c.args.content.now ++ newline)))) []))
    (sym c.if-not-starts.false) line
