use Rattle.std.proofs.Common.{ℕ, List, map, length, sym, subst, ap, ◌∙◌}
use Rattle.wave_text.specs.Names.{path_of}
use Rattle.wave_text.specs.Text.{ups, scope_line, text_of}
use Rattle.wave_text.proofs.Printed.{text-append}
use Rattle.wave_text.proofs.declarations.print_moves.Goals as goal

pub returns : goal.returns
returns g c =
    let left = path_of c.apart.result.0.now in
    let entered = path_of c.apart.result.1.now in
    subst (λ (x : List ℕ). g.P.Page.went c.args.page.now c.print_scopes.new.page x)
    (sym (ap text_of c.apart.ensures ∙ text-append (ups (length left)) (map scope_line entered)))
    (g.met.P.Page.onward _ _ _ _ _ c.print_ups.ensures c.print_scopes.ensures)
