-- IDs and binary digits are read as their numbers, and have no blank and no newline.
use Rattle.std.proofs.Common.{◌≡◌, ℕ, zero, suc, ◌+◌, ◌-◌, ◌*◌, ◌/◌, ◌%◌, ◌≤◌, ◌<◌, min, Bool, true, false, ltb, leb, List, [], ◌∷◌, ⊎_elim, refl, ap, sym, ◌∙◌, arith}
use Rattle.std.proofs.Common.{ltb-true, ltb-false, le-leb}
use Rattle.std.proofs.lemmas.Bool.{cases_Bool, cond-true, cond-false, and_from}
use Rattle.wave_text.specs.Digits.{id_digits, id_of, bits_onto, binary}
use Rattle.wave_text.specs.Reading.{place_of, number_after, largest}
use Rattle.wave_text.specs.Wave.{most_numbers}
use Rattle.wave_text.proofs.Joined.{is_word}

place-digits : (fuel n : ℕ) → n ≤ fuel → n ≤ most_numbers → place_of (id_digits fuel n) ≡ n
place-digits zero n l small = let z : min most_numbers (((33 + n) - 33) + 94 * 0) ≡ n = omega (arith, small) in z
place-digits (suc fuel) n l small = ⊎_elim
    (λ (t : ltb n 94 ≡ true). ap place_of (cond-true (ltb n 94) ((33 + n) ∷ []) ((33 + n % 94) ∷ id_digits fuel (n / 94)) t)
    ∙ (let z : min most_numbers (((33 + n) - 33) + 94 * 0) ≡ n = omega (arith, small) in z))
    (λ (t : ltb n 94 ≡ false). ap place_of (cond-false (ltb n 94) ((33 + n) ∷ []) ((33 + n % 94) ∷ id_digits fuel (n / 94)) t)
    ∙ (let big = ltb-false n 94 t in let more = place-digits fuel (n / 94) (omega (arith, big, l)) (omega (arith, big, small)) in
    let z : min most_numbers (((33 + n % 94) - 33) + 94 * place_of (id_digits fuel (n / 94))) ≡ n = omega (arith, more, small) in z))
    (cases_Bool (ltb n 94))

pub place-id : (n : ℕ) → n ≤ most_numbers → place_of (id_of n) ≡ n
place-id n small = place-digits n n (omega arith) small

number-one : (n m : ℕ) → n ≤ largest → m ≡ n → min largest m ≡ n
number-one n m small e = omega (arith, small, e)

number-bits : (fuel n : ℕ) (digits : List ℕ) → n ≤ fuel → n ≤ largest → number_after 0 (bits_onto fuel n digits) ≡ number_after n digits
number-bits zero n digits l small = ap (λ k. number_after k digits) (number-one n (2 * 0 + ((48 + n) - 48)) small (omega arith))
number-bits (suc fuel) n digits l small = ⊎_elim
    (λ (t : ltb n 2 ≡ true). ap (number_after 0) (cond-true (ltb n 2) ((48 + n) ∷ digits) (bits_onto fuel (n / 2) ((48 + n % 2) ∷ digits)) t)
    ∙ ap (λ k. number_after k digits) (number-one n (2 * 0 + ((48 + n) - 48)) small (omega arith)))
    (λ (t : ltb n 2 ≡ false). ap (number_after 0) (cond-false (ltb n 2) ((48 + n) ∷ digits) (bits_onto fuel (n / 2) ((48 + n % 2) ∷ digits)) t)
    ∙ (let big = ltb-false n 2 t in
    number-bits fuel (n / 2) ((48 + n % 2) ∷ digits) (omega (arith, big, l)) (let half : n / 2 ≤ n = omega arith in omega (arith, half, small)))
    ∙ ap (λ k. number_after k digits) (number-one n (2 * (n / 2) + ((48 + n % 2) - 48)) small (omega arith)))
    (cases_Bool (ltb n 2))

pub number-binary : (n : ℕ) → n ≤ largest → number_after 0 (binary n) ≡ n
number-binary n small = number-bits n n [] (omega arith) small

word-digits : (fuel n : ℕ) → is_word (id_digits fuel n) ≡ true
word-digits zero n = and_from (leb 33 (33 + n)) true (le-leb 33 (33 + n) (omega arith)) refl
word-digits (suc fuel) n = ⊎_elim
    (λ (t : ltb n 94 ≡ true). ap is_word (cond-true (ltb n 94) ((33 + n) ∷ []) ((33 + n % 94) ∷ id_digits fuel (n / 94)) t)
    ∙ and_from (leb 33 (33 + n)) true (le-leb 33 (33 + n) (omega arith)) refl)
    (λ (t : ltb n 94 ≡ false). ap is_word (cond-false (ltb n 94) ((33 + n) ∷ []) ((33 + n % 94) ∷ id_digits fuel (n / 94)) t)
    ∙ and_from (leb 33 (33 + n % 94)) (is_word (id_digits fuel (n / 94))) (le-leb 33 (33 + n % 94) (omega arith)) (word-digits fuel (n / 94)))
    (cases_Bool (ltb n 94))

pub word-id : (n : ℕ) → is_word (id_of n) ≡ true
word-id n = word-digits n n

word-bits : (fuel n : ℕ) (digits : List ℕ) → is_word digits ≡ true → is_word (bits_onto fuel n digits) ≡ true
word-bits zero n digits h = and_from (leb 33 (48 + n)) (is_word digits) (le-leb 33 (48 + n) (omega arith)) h
word-bits (suc fuel) n digits h = ⊎_elim
    (λ (t : ltb n 2 ≡ true). ap is_word (cond-true (ltb n 2) ((48 + n) ∷ digits) (bits_onto fuel (n / 2) ((48 + n % 2) ∷ digits)) t)
    ∙ and_from (leb 33 (48 + n)) (is_word digits) (le-leb 33 (48 + n) (omega arith)) h)
    (λ (t : ltb n 2 ≡ false). ap is_word (cond-false (ltb n 2) ((48 + n) ∷ digits) (bits_onto fuel (n / 2) ((48 + n % 2) ∷ digits)) t)
    ∙ word-bits fuel (n / 2) ((48 + n % 2) ∷ digits)
    (and_from (leb 33 (48 + n % 2)) (is_word digits) (le-leb 33 (48 + n % 2) (omega arith)) h))
    (cases_Bool (ltb n 2))

pub word-binary : (n : ℕ) → is_word (binary n) ≡ true
word-binary n = word-bits n n [] refl
