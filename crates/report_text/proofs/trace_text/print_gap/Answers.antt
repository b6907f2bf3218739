use Rattle.std.proofs.Common.{Bool, ◌++◌, [], cond, codes, decimal, sym, subst}
use Rattle.std.proofs.lemmas.Bool.{ne_eqb}
use Rattle.report_text.specs.Text.{newline}
use Rattle.report_text.proofs.trace_text.print_gap.Goals as goal

pub returns : goal.returns
returns g c =
    let on = g.met.P.Page.onward in
    let line = on _ _ _ _ _ c.print_number.ensures (on _ _ _ _ _ c.print.ensures (on _ _ _ _ _ c.print_number-2.ensures c.print-2.ensures)) in
    subst (λ (b : Bool). g.P.Page.went c.args.page.now c.print-2.new.self
    (cond b [] (decimal c.args.number ++ (codes " gap " ++ (decimal c.args.gap ++ newline)))))
    (sym (ne_eqb c.args.gap 0 c.if-gap-eq0.false)) line
