-- Comparing nothing changes nothing, and one text after another is both.
use Rattle.std.proofs.Common.{◌≡◌, ℕ, Bool, true, false, List, [], ◌++◌, refl, ap, sym, ◌∙◌, append_assoc}
use Rattle.std.proofs.lemmas.List.{append_cancel_left}
use Rattle.wave_text.specs.Matching.{Matched}

pub matched_nothing : (rest : List ℕ) (differs : Bool) → Matched rest differs rest differs []
matched_nothing rest true = refl
matched_nothing rest false = refl

pub matched_on : (x y z : List ℕ) (d e f : Bool) (a b : List ℕ) → Matched x d y e a → Matched y e z f b → Matched x d z f (a ++ b)
matched_on x y z true true f a b first second = second
matched_on x y z true false f a b first second = absurd cc
matched_on x y z false true true a b first second = λ tail same. first (b ++ tail) (same ∙ append_assoc a b tail)
matched_on x y z false true false a b first second = absurd cc
matched_on x y z false false false a b first second = first ∙ ap (λ t. a ++ t) second ∙ sym (append_assoc a b z)
matched_on x y z false false true a b first second =
    λ tail same. second tail (append_cancel_left a y (b ++ tail) (sym first ∙ same ∙ append_assoc a b tail))
