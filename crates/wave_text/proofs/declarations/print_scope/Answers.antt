use Rattle.std.proofs.Common.{◌∷◌, [], ◌++◌, List, ℕ, subst, ap, append_assoc, sym, codes}
use Rattle.wave_text.specs.Text.{ends}
use Rattle.wave_text.proofs.declarations.print_scope.Goals as goal

pub returns : goal.returns
returns g c =
    let name = c.args.name.now in
    subst (λ (x : List ℕ). g.P.Page.went c.args.page.now c.print-3.new.self (codes "$scope module " ++ x))
    (sym (append_assoc name (32 ∷ ends) (10 ∷ [])))
    (g.met.P.Page.onward _ _ _ _ _ c.print.ensures (g.met.P.Page.onward _ _ _ _ _ c.print-2.ensures c.print-3.ensures))
