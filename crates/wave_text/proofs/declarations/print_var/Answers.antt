use Rattle.std.proofs.Common.{ℕ, List, subst, ap, ◌∙◌}
use Rattle.wave_text.specs.Names.{base_of}
use Rattle.wave_text.proofs.Printed.{var-text}
use Rattle.wave_text.proofs.declarations.print_var.Goals as goal

pub returns : goal.returns
returns g c =
    let on = g.met.P.Page.onward in
    let base = subst (λ (x : List ℕ). g.P.Page.went c.print_id.new.page c.print-3.new.self x)
    (c.base_of.ensures ∙ ap base_of c.as_slice.ensures) c.print-3.ensures in
    subst (λ (x : List ℕ). g.P.Page.went c.args.page.now c.print-4.new.self x) (var-text c.args.n c.args.net.now)
    (on _ _ _ _ _ c.print.ensures (on _ _ _ _ _ c.print_number.ensures (on _ _ _ _ _ c.print-2.ensures (on _ _ _ _ _ c.print_id.ensures
    (on _ _ _ _ _ base c.print-4.ensures)))))
