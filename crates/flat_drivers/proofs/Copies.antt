-- A copy of a table, entry by entry.
use Rattle.std.proofs.Common.{◌≡◌, ◌≢◌, ℕ, zero, suc, ◌+◌, Bool, true, false, if◌then◌else◌, List, [], ◌∷◌, ◌++◌, map, take, length}
use Rattle.std.proofs.Common.{Some, slice_get, is_some, refl, ap, sym, subst, ◌∙◌, add-one}
use Rattle.flat_parts.proofs.vidi_bits_lemmas.Lists.{some_same}
use Rattle.flat_parts.specs.vlog_size.Table.{Named, value_of, added}

module _ {V : Type 0} where
  -- a table that got longer has one more entry
  longer : (b : Bool) (xs : List (Named V)) (x : Named V) → length (if b then xs else xs ++ x ∷ []) ≢ length xs
      → (if b then xs else xs ++ x ∷ []) ≡ xs ++ x ∷ []
  longer true xs x h = absurd (h refl)
  longer false xs x h = refl

  next_entry : (t : List (Named V)) (k : ℕ) (name : List ℕ) (v : V) → slice_get (map (λ x. x.name) t) k ≡ Some name
      → slice_get (map (λ x. x.value) t) k ≡ Some v → take (suc k) t ≡ take k t ++ record { name = name; value = v } ∷ []
  next_entry [] k name v h g = absurd (cc)
  next_entry (x ∷ xs) zero name v h g =
      ap (λ n. record { name = n; value = x.value } ∷ []) (some_same x.name name h)
      ∙ ap (λ y. record { name = name; value = y } ∷ []) (some_same x.value v g)
  next_entry (x ∷ xs) (suc k) name v h g = ap (λ ys. x ∷ ys) (next_entry xs k name v h g)

  pub entry_copied : (t old new : List (Named V)) (k : ℕ) (name : List ℕ) (v : V) → old ≡ take k t
      → slice_get (map (λ x. x.name) t) k ≡ Some name → slice_get (map (λ x. x.value) t) k ≡ Some v → new ≡ added old name v
      → length new ≢ length old → new ≡ take (k + 1) t
  entry_copied t old new k name v so_far h g is more = rw add-one
      (is ∙ longer (is_some (value_of old name)) old (record { name = name; value = v })
      (subst (λ (ys : List (Named V)). length ys ≢ length old) is more)
      ∙ ap (λ ys. ys ++ record { name = name; value = v } ∷ []) so_far ∙ sym (next_entry t k name v h g))
