-- Lists of a known length.
use Rattle.std.proofs.Common.{◌≡◌, ◌≤◌, ◌<◌, List, [], ◌∷◌, length, get_or, ap, sym, ◌∙◌, arith}

pub two : {A : Type 0} (xs : List A) (a b : A) → 2 ≤ length xs → length xs < 3 → a ≡ get_or xs 0 a → b ≡ get_or xs 1 b → xs ≡ a ∷ b ∷ []
two [] a b low high p q = absurd (omega arith)
two (x ∷ []) a b low high p q = absurd (omega arith)
two (x ∷ y ∷ []) a b low high p q = ap (λ z. z ∷ y ∷ []) (sym p) ∙ ap (λ z. a ∷ z ∷ []) (sym q)
two (x ∷ y ∷ z ∷ xs) a b low high p q = absurd (omega arith)

pub three : {A : Type 0} (xs : List A) (a b c : A) → 3 ≤ length xs → length xs < 4 → a ≡ get_or xs 0 a → b ≡ get_or xs 1 b → c
    ≡ get_or xs 2 c → xs ≡ a ∷ b ∷ c ∷ []
three [] a b c low high p q r = absurd (omega arith)
three (x ∷ []) a b c low high p q r = absurd (omega arith)
three (x ∷ y ∷ []) a b c low high p q r = absurd (omega arith)
three (x ∷ y ∷ z ∷ []) a b c low high p q r = ap (λ w. w ∷ y ∷ z ∷ []) (sym p) ∙ ap (λ w. a ∷ w ∷ z ∷ []) (sym q)
    ∙ ap (λ w. a ∷ b ∷ w ∷ []) (sym r)
three (x ∷ y ∷ z ∷ w ∷ xs) a b c low high p q r = absurd (omega arith)

pub six : {A : Type 0} (xs : List A) (a b c d e f : A) → 6 ≤ length xs → length xs < 7 → a ≡ get_or xs 0 a → b ≡ get_or xs 1 b
    → c ≡ get_or xs 2 c → d ≡ get_or xs 3 d → e ≡ get_or xs 4 e → f ≡ get_or xs 5 f → xs ≡ a ∷ b ∷ c ∷ d ∷ e ∷ f ∷ []
six [] a b c d e f low high p q r s t u = absurd (omega arith)
six (x ∷ []) a b c d e f low high p q r s t u = absurd (omega arith)
six (x ∷ y ∷ []) a b c d e f low high p q r s t u = absurd (omega arith)
six (x ∷ y ∷ z ∷ []) a b c d e f low high p q r s t u = absurd (omega arith)
six (x ∷ y ∷ z ∷ w ∷ []) a b c d e f low high p q r s t u = absurd (omega arith)
six (x ∷ y ∷ z ∷ w ∷ v ∷ []) a b c d e f low high p q r s t u = absurd (omega arith)
six (x ∷ y ∷ z ∷ w ∷ v ∷ k ∷ []) a b c d e f low high p q r s t u =
    λ i. sym p i ∷ sym q i ∷ sym r i ∷ sym s i ∷ sym t i ∷ sym u i ∷ []
six (x ∷ y ∷ z ∷ w ∷ v ∷ k ∷ m ∷ xs) a b c d e f low high p q r s t u = absurd (omega arith)

pub eight : {A : Type 0} (xs : List A) (a b c d e f g h : A) → 8 ≤ length xs → length xs < 9 → a ≡ get_or xs 0 a → b ≡ get_or xs 1 b
    → c ≡ get_or xs 2 c → d ≡ get_or xs 3 d → e ≡ get_or xs 4 e → f ≡ get_or xs 5 f → g ≡ get_or xs 6 g → h ≡ get_or xs 7 h
    → xs ≡ a ∷ b ∷ c ∷ d ∷ e ∷ f ∷ g ∷ h ∷ []
eight [] a b c d e f g h low high p q r s t u v w = absurd (omega arith)
eight (x ∷ []) a b c d e f g h low high p q r s t u v w = absurd (omega arith)
eight (x ∷ y ∷ []) a b c d e f g h low high p q r s t u v w = absurd (omega arith)
eight (x ∷ y ∷ z ∷ []) a b c d e f g h low high p q r s t u v w = absurd (omega arith)
eight (x ∷ y ∷ z ∷ k ∷ []) a b c d e f g h low high p q r s t u v w = absurd (omega arith)
eight (x ∷ y ∷ z ∷ k ∷ l ∷ []) a b c d e f g h low high p q r s t u v w = absurd (omega arith)
eight (x ∷ y ∷ z ∷ k ∷ l ∷ m ∷ []) a b c d e f g h low high p q r s t u v w = absurd (omega arith)
eight (x ∷ y ∷ z ∷ k ∷ l ∷ m ∷ n ∷ []) a b c d e f g h low high p q r s t u v w = absurd (omega arith)
eight (x ∷ y ∷ z ∷ k ∷ l ∷ m ∷ n ∷ o ∷ []) a b c d e f g h low high p q r s t u v w =
    λ i. sym p i ∷ sym q i ∷ sym r i ∷ sym s i ∷ sym t i ∷ sym u i ∷ sym v i ∷ sym w i ∷ []
eight (x ∷ y ∷ z ∷ k ∷ l ∷ m ∷ n ∷ o ∷ j ∷ xs) a b c d e f g h low high p q r s t u v w = absurd (omega arith)
