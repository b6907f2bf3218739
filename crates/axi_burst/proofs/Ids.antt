-- IDs, compared.
use Rattle.std.proofs.Common.{◌≡◌, ℕ, eqb, sym}
use Rattle.std.proofs.lemmas.Bool.{eq-eqb, eqb-true}
use Rattle.trace_model.proofs.vidi_bits_lemmas.Bools.{same_test}

pub swapped : (a b : ℕ) → eqb a b ≡ eqb b a
swapped a b = same_test (eqb a b) (eqb b a) (λ h. eq-eqb b a (sym (eqb-true a b h))) (λ h. eq-eqb a b (sym (eqb-true b a h)))
