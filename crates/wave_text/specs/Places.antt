-- Where a number is written before it is printed.
use Rattle.std.specs.Prelude.{◌≡◌, ℕ, zero, suc, ◌+◌, ◌-◌, ◌/◌, ◌%◌, ◌^◌, ◌<◌, ◌≤◌, List, [], ◌∷◌, ◌++◌, drop, length}
use Rattle.wave_text.specs.Digits.{binary}

-- a letter, 128 digits and a space
abbrev pub number_room : ℕ
number_room = 130

-- the lowest k binary digits of a number, with leading zeros
abbrev pub lowest_digits : ℕ → ℕ → List ℕ
lowest_digits zero n = []
lowest_digits (suc k) n = lowest_digits k (n / 2) ++ (48 + n % 2) ∷ []

-- a number x is written from place `at` to the space but for its highest digits, those of the rest; 8 by 8 its places are used up
pub record IsBegun (x : ℕ) (before places : List ℕ) (at rest : ℕ) : Type 0 where
  pub low : 9 ≤ at
  pub high : at ≤ number_room - 1
  pub step : (at - 1) % 8 ≡ 0
  pub small : rest < 2 ^ (at - 1)
  pub room : length places ≡ length before
  pub text : binary rest ++ drop at places ≡ binary x ++ drop (number_room - 1) before
