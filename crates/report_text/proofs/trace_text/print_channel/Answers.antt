use Rattle.std.proofs.Common.{List, ℕ, subst}
use Rattle.report_text.specs.Text.{spaced}
use Rattle.report_text.proofs.trace_text.print_channel.Goals as goal

pub returns : goal.returns
returns g c =
    let on = g.met.P.Page.onward in
    let dir = subst (λ (x : List ℕ). g.P.Page.went c.print_number.new.page c.print-2.new.self x) c.direction_text.ensures
    c.print-2.ensures in
    let name = subst (λ (x : List ℕ). g.P.Page.went c.print-2.new.self c.print-3.new.self x) c.as_slice.ensures c.print-3.ensures in
    let widths = subst (λ (x : List ℕ). g.P.Page.went c.print-3.new.self c.print_numbers.new.page (spaced x)) c.as_slice-2.ensures
    c.print_numbers.ensures in
    on _ _ _ _ _ c.print.ensures (on _ _ _ _ _ c.print_number.ensures (on _ _ _ _ _ dir (on _ _ _ _ _ name
    (on _ _ _ _ _ widths c.print-4.ensures))))
