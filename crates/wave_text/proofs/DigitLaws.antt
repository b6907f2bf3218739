-- IDs and binary digits, digit by digit.
use Rattle.std.proofs.Common.{◌≡◌, ℕ, zero, suc, ◌+◌, ◌-◌, ◌*◌, ◌/◌, ◌%◌, ◌≤◌, ◌<◌, ◌++◌, Bool, true, false, ltb, List, [], ◌∷◌, ⊎_elim, refl, ap, sym, ◌∙◌, arith, append_assoc, append-nil}
use Rattle.std.proofs.Common.{ltb-true, ltb-false, lt-ltb, le-ltb}
use Rattle.std.proofs.lemmas.Bool.{cases_Bool, cond-true, cond-false}
use Rattle.wave_text.specs.Digits.{id_digits, id_of, bits_onto, binary}

one-id : (fuel n : ℕ) → n < 94 → id_digits fuel n ≡ (33 + n) ∷ []
one-id zero n l = refl
one-id (suc fuel) n l = cond-true (ltb n 94) ((33 + n) ∷ []) ((33 + n % 94) ∷ id_digits fuel (n / 94)) (lt-ltb n 94 l)

more-id : (fuel n : ℕ) → 94 ≤ n → id_digits (suc fuel) n ≡ (33 + n % 94) ∷ id_digits fuel (n / 94)
more-id fuel n l = cond-false (ltb n 94) ((33 + n) ∷ []) ((33 + n % 94) ∷ id_digits fuel (n / 94)) (le-ltb n 94 l)

-- fuel that is enough doesn't count
same-id : (f g n : ℕ) → n ≤ f → n ≤ g → id_digits f n ≡ id_digits g n
same-id zero g n l k = sym (one-id g n (omega (arith, l)))
same-id (suc f) zero n l k = one-id (suc f) n (omega (arith, k))
same-id (suc f) (suc g) n l k = ⊎_elim
    (λ (t : ltb n 94 ≡ true). let s = ltb-true n 94 t in one-id (suc f) n s ∙ sym (one-id (suc g) n s))
    (λ (t : ltb n 94 ≡ false). let b = ltb-false n 94 t in
    more-id f n b ∙ ap (λ ds. (33 + n % 94) ∷ ds) (same-id f g (n / 94) (omega (arith, b, l)) (omega (arith, b, k))) ∙ sym (more-id g n b))
    (cases_Bool (ltb n 94))

pub id-small : (n : ℕ) → n < 94 → id_of n ≡ (33 + n) ∷ []
id-small n l = one-id n n l

pub id-more : (n : ℕ) → 94 ≤ n → id_of n ≡ (33 + n % 94) ∷ id_of (n / 94)
id-more n l =
    same-id n (suc n) n (omega arith) (omega arith) ∙ more-id n n l ∙ ap (λ ds. (33 + n % 94) ∷ ds) (same-id n (n / 94) (n / 94) (omega arith) (omega arith))

one-bit : (fuel n : ℕ) (ds : List ℕ) → n < 2 → bits_onto fuel n ds ≡ (48 + n) ∷ ds
one-bit zero n ds l = refl
one-bit (suc fuel) n ds l = cond-true (ltb n 2) ((48 + n) ∷ ds) (bits_onto fuel (n / 2) ((48 + n % 2) ∷ ds)) (lt-ltb n 2 l)

more-bits : (fuel n : ℕ) (ds : List ℕ) → 2 ≤ n → bits_onto (suc fuel) n ds ≡ bits_onto fuel (n / 2) ((48 + n % 2) ∷ ds)
more-bits fuel n ds l = cond-false (ltb n 2) ((48 + n) ∷ ds) (bits_onto fuel (n / 2) ((48 + n % 2) ∷ ds)) (le-ltb n 2 l)

-- enough fuel, and digits put behind
bits-split : (f g n : ℕ) (ds : List ℕ) → n ≤ f → n ≤ g → bits_onto f n ds ≡ bits_onto g n [] ++ ds
bits-split zero g n ds l k = ap (λ xs. xs ++ ds) (sym (one-bit g n [] (omega (arith, l))))
bits-split (suc f) zero n ds l k = one-bit (suc f) n ds (omega (arith, k))
bits-split (suc f) (suc g) n ds l k = ⊎_elim
    (λ (t : ltb n 2 ≡ true). let s = ltb-true n 2 t in one-bit (suc f) n ds s ∙ ap (λ xs. xs ++ ds) (sym (one-bit (suc g) n [] s)))
    (λ (t : ltb n 2 ≡ false). let b = ltb-false n 2 t in
    more-bits f n ds b
    ∙ bits-split f g (n / 2) ((48 + n % 2) ∷ ds) (omega (arith, b, l)) (omega (arith, b, k))
    ∙ sym (append_assoc (bits_onto g (n / 2) []) ((48 + n % 2) ∷ []) ds)
    ∙ ap (λ xs. xs ++ ds) (sym (bits-split g g (n / 2) ((48 + n % 2) ∷ []) (omega (arith, b, k)) (omega (arith, b, k))) ∙ sym (more-bits g n [] b)))
    (cases_Bool (ltb n 2))

pub binary-small : (n : ℕ) → n < 2 → binary n ≡ (48 + n) ∷ []
binary-small n l = one-bit n n [] l

pub binary-more : (n : ℕ) → 2 ≤ n → binary n ≡ binary (n / 2) ++ (48 + n % 2) ∷ []
binary-more n l =
    bits-split n (suc n) n [] (omega arith) (omega arith) ∙ append-nil (bits_onto (suc n) n []) ∙ more-bits n n [] l
    ∙ bits-split n (n / 2) (n / 2) ((48 + n % 2) ∷ []) (omega arith) (omega arith)
