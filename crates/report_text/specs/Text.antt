-- Pieces of printed lines (this project's profile). Every line ends with a newline, and numbers are decimal.
use Rattle.std.specs.Prelude.{ℕ, List, [], ◌∷◌, decimal}
use Rattle.std.specs.List.{flat_map}

abbrev pub newline : List ℕ
newline = 10 ∷ []

-- each number after a space, in decimal
abbrev pub spaced : List ℕ → List ℕ
spaced numbers = flat_map (λ (x : ℕ). 32 ∷ decimal x) numbers
