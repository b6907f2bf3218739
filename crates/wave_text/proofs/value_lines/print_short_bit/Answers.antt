use Rattle.std.proofs.Common.{ℕ, List, [], ◌∷◌, ◌++◌, ◌+◌, ap, sym, subst}
use Rattle.wave_text.proofs.DigitLaws.{id-small}
use Rattle.wave_text.proofs.value_lines.print_short_bit.Goals as goal

pub returns : goal.returns
returns g c =
    let x = c.args.x in
    let n = c.args.n in
    let both : g.P.Page.went c.args.page.now c.print.new.self ((48 + x) ∷ (33 + n) ∷ 10 ∷ []) = c.print.ensures in
    subst (λ (t : List ℕ). g.P.Page.went c.args.page.now c.print.new.self t)
    (ap (λ ds. (48 + x) ∷ (ds ++ 10 ∷ [])) (sym (id-small n c.requires.net))) both
