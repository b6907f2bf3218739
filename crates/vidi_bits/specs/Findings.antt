-- A reason is the list of all its findings, in the order in which they are answered; an answer is the first of them.
use Rattle.std.specs.Prelude.{◌≡◌, Bool, true, false, List, [], ◌∷◌, Option, None, Some, IfSome, Result, Ok, Err}

-- whether a list is empty
abbrev pub is_nil : {A : Type 0} → List A → Bool
is_nil [] = true
is_nil (x ∷ xs) = false

-- the first finding, or none
abbrev pub first : {A : Type 0} → List A → Option A
first [] = None
first (x ∷ xs) = Some x

-- the one, or else the other
abbrev pub or_first : {A : Type 0} → Option A → Option A → Option A
or_first None b = b
or_first (Some a) b = Some a

-- a finding where the test holds
abbrev pub told_if : {A : Type 0} → Bool → A → List A
told_if true x = x ∷ []
told_if false x = []

-- the first finding, where the error tells one; want of memory tells none, and is free
abbrev pub IsFirst : {E F : Type 0} → (E → Option F) → List F → E → Type 0
IsFirst told findings error = IfSome (told error) (λ finding. first findings ≡ Some finding)

-- an answer exactly where nothing is found, and else the first finding; want of memory is free
abbrev pub Judged : {A E F : Type 0} → (E → Option F) → Result A E → List F → Type 0
Judged told (Ok a) findings = findings ≡ []
Judged told (Err error) findings = IsFirst told findings error
