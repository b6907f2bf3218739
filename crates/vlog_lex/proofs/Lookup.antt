-- The words of a text's length are enough to look the text up in.
use Rattle.std.proofs.Common.{◌≡◌, ℕ, ◌<◌, Bool, true, false, cond, List, [], ◌∷◌, ◌==◌, ◌||◌, length, nat_lt, sym, refl, ap, ◌∙◌, subst}
use Rattle.std.proofs.Common.{⊎_elim}
use Rattle.std.specs.List.{filter}
use Rattle.std.specs.Str.{bytes_eq}
use Rattle.std.proofs.lemmas.Slice.Eq.{bytes_eq-Decides}
use Rattle.std.proofs.lemmas.Bool.{cases_Bool, both_ways, eq-eqb, lt-ltb, false_from_ne_true}
use Rattle.vlog_lex.specs.Words.{is_among, reserved_words, is_reserved}

-- the words whose length passes
abbrev pub with_length : (ℕ → Bool) → List (List ℕ) → List (List ℕ)
with_length p words = filter (λ w. p (length w)) words

among_with_length : (p : ℕ → Bool) (words : List (List ℕ)) (text : List ℕ) → p (length text) ≡ true → is_among (with_length p words) text
    ≡ is_among words text
among_with_length p [] text passes = refl
among_with_length p (w ∷ words) text passes =
    let rest = among_with_length p words text passes in
    let some = λ (t : Bool). is_among (cond t (w ∷ with_length p words) (with_length p words)) text in
    ⊎_elim
    (λ (same : p (length w) ≡ true). ap some same ∙ ap (λ t. bytes_eq text w || t) rest)
    (λ (other : p (length w) ≡ false).
    let P : List ℕ → Type 0 = λ t. p (length t) ≡ true in
    let no : bytes_eq text w ≡ false = false_from_ne_true (bytes_eq text w)
    (λ h. both_ways _ other (subst P ((bytes_eq-Decides text w).0 h) passes)) in
    ap some other ∙ rest ∙ ap (λ t. t || is_among words text) (sym no))
    (cases_Bool (p (length w)))

pub reserved_of : (n : ℕ) (text : List ℕ) → length text ≡ n → is_among (with_length (λ m. m == n) reserved_words) text ≡ is_reserved text
unfolding is_reserved
reserved_of n text same = among_with_length (λ m. m == n) reserved_words text (eq-eqb (length text) n same)

pub reserved_below : (n : ℕ) (text : List ℕ) → length text < n → is_among (with_length (λ m. nat_lt m n) reserved_words) text
    ≡ is_reserved text
unfolding is_reserved
reserved_below n text short = among_with_length (λ m. nat_lt m n) reserved_words text (lt-ltb (length text) n short)

pub reserved_above : (n : ℕ) (text : List ℕ) → n < length text → is_among (with_length (λ m. nat_lt n m) reserved_words) text
    ≡ is_reserved text
unfolding is_reserved
reserved_above n text long = among_with_length (λ m. nat_lt n m) reserved_words text (lt-ltb n (length text) long)
