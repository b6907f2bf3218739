use Rattle.std.proofs.Common.{Bool, ◌++◌, [], cond, codes, decimal, sym, subst}
use Rattle.report_text.specs.Text.{newline}
use Rattle.report_text.proofs.trace_text.print_reset.Goals as goal

pub returns : goal.returns
returns g c =
    let on = g.met.P.Page.onward in
    let line = on _ _ _ _ _ c.print_number.ensures (on _ _ _ _ _ c.print.ensures c.print-2.ensures) in
    subst (λ (b : Bool). g.P.Page.went c.args.page.now c.print-2.new.self (cond b (decimal c.args.number ++ (codes " reset" ++ newline)) []))
    (sym c.if-not-reset.false) line
