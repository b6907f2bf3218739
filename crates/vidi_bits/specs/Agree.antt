-- What it is that a question has one answer.
use Rattle.std.specs.Prelude.{◌≡◌, ◌⊎◌, Result, Ok, Err}

-- two answers are the same by what is made, or by the error, unless one of them is want of memory
abbrev pub Agree : {A E : Type 0} → (A → A → Type 0) → E → Result A E → Result A E → Type 0
Agree Same memory (Ok a) (Ok b) = Same a b
Agree Same memory (Ok a) (Err f) = f ≡ memory
Agree Same memory (Err e) (Ok b) = e ≡ memory
Agree Same memory (Err e) (Err f) = (e ≡ memory) ⊎ (f ≡ memory) ⊎ (e ≡ f)

abbrev pub OneAnswer : {A E : Type 0} → (A → A → Type 0) → E → (Result A E → Type 0) → Type 0
OneAnswer {A} {E} Same memory Answers = (a b : Result A E) → Answers a → Answers b → Agree Same memory a b
