use Rattle.std.proofs.Common.{ℕ, List, [], ◌∷◌, ◌++◌, sym, subst}
use Rattle.wave_text.specs.Text.{time_line, scope_line, net_lines, last_line}
use Rattle.wave_text.proofs.Printed.{text-append}
use Rattle.wave_text.proofs.declarations.print_declarations.Goals as goal

pub returns : goal.returns
returns g c =
    let on = g.met.P.Page.onward in
    subst (λ (x : List ℕ). g.P.Page.went c.args.page.now c.print-2.new.self
    ((time_line ++ 10 ∷ []) ++ ((scope_line c.args.top.now ++ 10 ∷ []) ++ x)))
    (sym (text-append (net_lines [] 0 c.args.nets.now) (last_line ∷ [])))
    (on _ _ _ _ _ c.print.ensures (on _ _ _ _ _ c.print_scope.ensures (on _ _ _ _ _ c.print_nets.ensures c.print-2.ensures)))
