-- An answer that is made where nothing is found, and else the first finding, is one.
use Rattle.std.proofs.Common.{◌≡◌, ◌⊎◌, List, [], None, Some, Result, Ok, Err, inl, inr, sym, ap, ◌∙◌}
use Rattle.vidi_bits.proofs.Lists.{some_same}
use Rattle.vidi_bits.specs.Findings.{first}
use Rattle.vidi_bits.specs.Agree.{OneAnswer}

no-finding : {F : Type 0} (x : F) → None ≡ Some x → ⊥
no-finding x e = cc

-- the findings are of any kind; an error tells of one
module _ {A E F : Type 0} (Same : A → A → Type 0) (memory : E) (Makes : A → Type 0) (findings : List F) (tells : F → E)
    (Answers : Result A E → Type 0)
    (made : (a : A) → Answers (Ok a) → (findings ≡ []) × Makes a)
    (found : (e : E) → Answers (Err e) → (e ≡ memory) ⊎ ((f : F) × (e ≡ tells f) × (first findings ≡ Some f)))
    (one : (a b : A) → Makes a → Makes b → Same a b) where
  apart : (a : A) (e : E) → Answers (Ok a) → Answers (Err e) → e ≡ memory
  apart a e x y = elim (found e y) [
    | inl wanting ↦ wanting
    | inr told ↦ absurd (no-finding told.0 (ap first (sym (made a x).0) ∙ told.2))
  ]

  pub one-answer : OneAnswer Same memory Answers
  one-answer (Ok a) (Ok b) x y = one a b (made a x).1 (made b y).1
  one-answer (Ok a) (Err f) x y = apart a f x y
  one-answer (Err e) (Ok b) x y = apart b e y x
  one-answer (Err e) (Err f) x y = elim (found e x) [
    | inl wanting ↦ inl wanting
    | inr told ↦ elim (found f y) [
      | inl wanting ↦ inr (inl wanting)
      | inr more ↦ inr (inr (told.1 ∙ ap tells (some_same told.0 more.0 (sym told.2 ∙ more.2)) ∙ sym more.1))
    ]
  ]
