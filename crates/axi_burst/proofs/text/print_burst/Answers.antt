use Rattle.std.proofs.Common.{List, ℕ, subst}
use Rattle.axi_burst.proofs.text.print_burst.Goals as goal

pub returns : goal.returns
returns g c =
    let on = g.met.P.Page.onward in
    let kind = subst (λ (x : List ℕ). g.P.Page.went c.args.page.now c.print.new.self x) c.kind_text.ensures c.print.ensures in
    let done = subst (λ (x : List ℕ). g.P.Page.went c.print_number-4.new.page c.print-5.new.self x) c.done_text.ensures c.print-5.ensures in
    on _ _ _ _ _ kind (on _ _ _ _ _ c.print_number.ensures (on _ _ _ _ _ c.print-2.ensures (on _ _ _ _ _ c.print_number-2.ensures
    (on _ _ _ _ _ c.print-3.ensures (on _ _ _ _ _ c.print_number-3.ensures (on _ _ _ _ _ c.print-4.ensures
    (on _ _ _ _ _ c.print_number-4.ensures done)))))))
