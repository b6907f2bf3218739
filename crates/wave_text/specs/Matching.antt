-- What is printed on a page that compares it with a text.
use Rattle.std.specs.Prelude.{◌≡◌, ℕ, Bool, true, false, List, ◌++◌}

-- `rest` is what is left to compare; what was printed was a front of it, or the page differs from now on
abbrev pub Matched : List ℕ → Bool → List ℕ → Bool → List ℕ → Type 0
Matched rest true rest' differs' text = differs' ≡ true
Matched rest false rest' false text = rest ≡ text ++ rest'
Matched rest false rest' true text = (tail : List ℕ) → rest ≡ text ++ tail → ⊥
