-- Lists to which pieces are added one after the other.
use Rattle.std.proofs.Common.{◌≡◌, List, [], ◌∷◌, ◌++◌, ap, ◌∙◌, append_assoc, append-nil}
use Rattle.std.specs.Prelude.{Result, Ok, Err, OnOk}

-- what was added before stands before
pub before : {A : Type 0} (old new add more all : List A) → new ≡ old ++ add → all ≡ new ++ more → all ≡ old ++ (add ++ more)
before old new add more all first last = last ∙ ap (λ xs. xs ++ more) first ∙ append_assoc old add more

pub on_ok : {A E : Type 0} (r : Result A E) (P Q : Type 0) → (P → Q) → OnOk r P → OnOk r Q
on_ok (Ok a) P Q more h = more h
on_ok (Err e) P Q more h = tt

-- two lists before others
pub two_before : {A : Type 0} (xs ys more : List A) → (xs ++ (ys ++ [])) ++ more ≡ xs ++ (ys ++ more)
two_before xs ys more = append_assoc xs (ys ++ []) more ∙ ap (λ zs. xs ++ zs) (append_assoc ys [] more)

-- four elements before a last list
pub four_before : {A : Type 0} (old new : List A) (a b c d : A) (xs : List A) → new ≡ old ++ (a ∷ b ∷ c ∷ d ∷ (xs ++ []))
    → new ≡ old ++ (a ∷ b ∷ c ∷ d ∷ xs)
four_before old new a b c d xs is = is ∙ ap (λ ys. old ++ (a ∷ b ∷ c ∷ d ∷ ys)) (append-nil xs)
