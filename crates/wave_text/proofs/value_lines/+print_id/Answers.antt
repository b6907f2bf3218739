use Rattle.std.proofs.Common.{◌≡◌, ℕ, ◌+◌, ◌%◌, ◌≤◌, ◌++◌, List, [], ◌∷◌, sym, subst, ap, arith}
use Rattle.wave_text.specs.Digits.{id_of}
use Rattle.wave_text.proofs.DigitLaws.{id-small, id-more}
use Rattle.wave_text.proofs.value_lines.+print_id.Goals as goal

pub returns-then-n-lt94 : goal.returns-then-n-lt94
returns-then-n-lt94 g t c =
    let digit : g.P.Page.went c.args.page.now c.print.new.self ((33 + c.args.n) ∷ c.args.after ∷ []) =
    subst (λ (b : ℕ). g.P.Page.went c.args.page.now c.print.new.self (b ∷ c.args.after ∷ [])) (omega arith) c.print.ensures in
    subst (λ (x : List ℕ). g.P.Page.went c.args.page.now c.print.new.self (x ++ c.args.after ∷ [])) (sym (id-small c.args.n c.if-n-lt94.true)) digit

pub returns : goal.returns
returns g t c =
    let n = c.args.n in
    let big : 94 ≤ n = omega (arith, c.if-n-lt94.false) in
    let digit : g.P.Page.went c.args.page.now c.print_byte.new.page ((33 + n % 94) ∷ []) =
    subst (λ (b : ℕ). g.P.Page.went c.args.page.now c.print_byte.new.page (b ∷ [])) (omega arith) c.print_byte.ensures in
    subst (λ (x : List ℕ). g.P.Page.went c.args.page.now c.print_id.new.page (x ++ c.args.after ∷ [])) (sym (id-more n big))
    (g.met.P.Page.onward _ _ _ _ _ digit c.print_id.ensures)
