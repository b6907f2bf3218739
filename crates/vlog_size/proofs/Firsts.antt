-- The first finding of two lists.
use Rattle.std.proofs.Common.{◌≡◌, Option, None, Some, List, [], ◌∷◌, ◌++◌, refl, sym, ap, ◌∙◌}
use Rattle.vlog_tree.specs.vidi_bits.Findings.{first, or_first}

pub first_append : {A : Type 0} → (xs ys : List A) → first (xs ++ ys) ≡ or_first (first xs) (first ys)
first_append [] ys = refl
first_append (x ∷ xs) ys = refl

pub or_first_assoc : {A : Type 0} → (a b c : Option A) → or_first (or_first a b) c ≡ or_first a (or_first b c)
or_first_assoc None b c = refl
or_first_assoc (Some x) b c = refl

pub first_both : {A : Type 0} → (a b : Option A) (xs ys : List A) → a ≡ first xs → b ≡ first ys → or_first a b ≡ first (xs ++ ys)
first_both a b xs ys h k = ap (λ o. or_first o b) h ∙ (ap (λ o. or_first (first xs) o) k ∙ sym (first_append xs ys))

pub or_none : {A : Type 0} → (o : Option A) → or_first o None ≡ o
or_none None = refl
or_none (Some x) = refl
