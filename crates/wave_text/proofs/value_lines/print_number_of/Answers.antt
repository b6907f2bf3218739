use Rattle.std.proofs.Common.{◌≡◌, ℕ, ◌+◌, ◌-◌, ◌++◌, ◌==◌, false, List, [], ◌∷◌, take, drop, sym, subst, ◌∙◌, arith, ne_eqb, length-drop}
use Rattle.std.proofs.lemmas.Bool.{cond-false}
use Rattle.std.proofs.lemmas.List.{take_all}
use Rattle.wave_text.specs.Digits.{binary}
use Rattle.wave_text.proofs.value_lines.print_number_of.Goals as goal

pub returns : goal.returns
returns g c =
    let w = c.args.width in
    let x = c.args.x in
    let at = c.put_number-at.result in
    let places = c.put_number-at.new.places in
    let wide : (w == 1) ≡ false = ne_eqb w 1 (λ e. absurd (c.if-width-eq1.false e)) in
    let left = length-drop at places in
    let whole : take (130 - at) (drop at places) ≡ drop at places = take_all (130 - at) (drop at places) (let kept = c.put_number-at.auto.places in omega (arith, left, kept)) in
    subst (λ (t : List ℕ). g.P.Page.went c.args.page.now c.print.new.self t)
    (whole ∙ c.put_number-at.ensures.text ∙ sym (cond-false (w == 1) ((48 + x) ∷ []) (98 ∷ (binary x ++ 32 ∷ [])) wide)) c.print.ensures
