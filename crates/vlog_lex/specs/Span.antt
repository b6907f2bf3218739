-- Texts whose bytes pass a test.
use Rattle.std.specs.Prelude.{ℕ, Bool, IsTrue, List, [], ◌∷◌}
use Rattle.std.specs.List.{AllByRecursion}

-- each byte passes
abbrev pub Each : (ℕ → Bool) → List ℕ → Type 0
Each test text = AllByRecursion (λ b. IsTrue (test b)) text

-- a byte that passes the first test, then bytes that pass the second
abbrev pub IsRun : (ℕ → Bool) → (ℕ → Bool) → List ℕ → Type 0
IsRun first others [] = ⊥
IsRun first others (b ∷ text) = IsTrue (first b) × Each others text

-- the bytes end, or the next one fails
abbrev pub Stops : (ℕ → Bool) → List ℕ → Type 0
Stops test [] = Unit {0}
Stops test (b ∷ rest) = ¬ IsTrue (test b)

-- the text is all that passes before the rest
pub record IsSpan (test : ℕ → Bool) (text rest : List ℕ) : Type 0 where
  pub each : Each test text
  pub stops : Stops test rest
