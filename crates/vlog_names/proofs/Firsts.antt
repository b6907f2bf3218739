-- A list with a first item isn't empty.
use Rattle.std.proofs.Common.{◌≡◌, false, List, [], ◌∷◌, Some, refl}
use Rattle.vlog_names.specs.vidi_bits.Findings.{first, is_nil}

pub first_not_nil : {A : Type 0} → (xs : List A) (x : A) → first xs ≡ Some x → is_nil xs ≡ false
first_not_nil [] x h = (cc)
first_not_nil (y ∷ xs) x h = refl
