use Rattle.std.proofs.Common.{◌≡◌, ℕ, ◌+◌, ◌-◌, ◌++◌, List, [], ◌∷◌, take, drop, sym, subst, ap, ◌∙◌, arith, length-drop, append_assoc}
use Rattle.std.proofs.lemmas.List.{take_all}
use Rattle.wave_text.specs.Digits.{binary, id_of}
use Rattle.wave_text.proofs.DigitLaws.{id-small}
use Rattle.wave_text.proofs.value_lines.print_short.Goals as goal

pub returns : goal.returns
returns g c =
    let n = c.args.n in
    let x = c.args.x in
    let at = c.put_number-at.result in
    let places = c.put_number-at.new.places in
    let left = length-drop at places in
    let kept = c.put_number-at.auto.places in
    let whole : take (132 - at) (drop at places) ≡ drop at places = take_all (132 - at) (drop at places) (omega (arith, left, kept)) in
    subst (λ (t : List ℕ). g.P.Page.went c.args.page.now c.print.new.self t)
    (whole ∙ c.put_number-at.ensures.text
    ∙ ap (λ b. 98 ∷ (binary x ++ 32 ∷ b ∷ 10 ∷ [])) (omega arith)
    ∙ ap (λ ds. 98 ∷ (binary x ++ 32 ∷ (ds ++ 10 ∷ []))) (sym (id-small n c.requires))
    ∙ ap (λ t. 98 ∷ t) (sym (append_assoc (binary x) (32 ∷ id_of n) (10 ∷ [])))) c.print.ensures
