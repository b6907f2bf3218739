use Rattle.std.proofs.Common.{Bool, List, ℕ, [], ◌++◌, length, take, cond, codes, decimal, sym, subst}
use Rattle.report_text.specs.Text.{spaced}
use Rattle.report_text.proofs.trace_text.print_start.Goals as goal

pub returns-clause-text : goal.returns-clause-text
returns-clause-text g c =
    let on = g.met.P.Page.onward in
    let name = subst (λ (x : List ℕ). g.P.Page.went c.print.new.self c.print-2.new.self x) c.as_slice.ensures c.print-2.ensures in
    let content = subst (λ (x : List ℕ). g.P.Page.went c.print-2.new.self c.print_numbers.new.page (spaced x)) c.split_content.ensures.front
    c.print_numbers.ensures in
    let line = on _ _ _ _ _ c.print_number.ensures (on _ _ _ _ _ c.print.ensures (on _ _ _ _ _ name
    (on _ _ _ _ _ content c.print-3.ensures))) in
    subst (λ (b : Bool). g.P.Page.went c.args.page.now c.print-3.new.self
    (cond b (decimal c.args.number ++ (codes " start " ++ (c.args.channel.now.name
    ++ (spaced (take (length c.args.channel.now.widths) c.args.contents.now) ++ c.args.clock.now)))) []))
    (sym c.if-not-starts.false) line
