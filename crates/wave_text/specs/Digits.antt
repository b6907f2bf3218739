-- Numbers in digits (IEEE 1364-2005, 18.2; this project's profile). The first argument is fuel, of which the number is enough.
use Rattle.std.specs.Prelude.{ℕ, zero, suc, ◌+◌, ◌/◌, ◌%◌, nat_lt, if◌then◌else◌, List, [], ◌∷◌}

-- base 94, the lowest digit first; digit d is the character 33 + d
abbrev pub id_digits : ℕ → ℕ → List ℕ
id_digits zero n = (33 + n) ∷ []
id_digits (suc fuel) n = if nat_lt n 94 then (33 + n) ∷ [] else (33 + n % 94) ∷ id_digits fuel (n / 94)

-- the ID of net n
abbrev pub id_of : ℕ → List ℕ
id_of n = id_digits n n

-- the binary digits of n before others, the highest first, without leading zeros
abbrev pub bits_onto : ℕ → ℕ → List ℕ → List ℕ
bits_onto zero n digits = (48 + n) ∷ digits
bits_onto (suc fuel) n digits = if nat_lt n 2 then (48 + n) ∷ digits else bits_onto fuel (n / 2) ((48 + n % 2) ∷ digits)

abbrev pub binary : ℕ → List ℕ
binary n = bits_onto n n []
