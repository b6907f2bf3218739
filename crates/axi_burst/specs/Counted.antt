-- A table of a number of each ID.
use Rattle.std.specs.Prelude.{ℕ, nat_eq, List, Option, None, Some}
use Rattle.std.specs.Map.{lookup}

abbrev pub or_zero : Option ℕ → ℕ
or_zero None = 0
or_zero (Some n) = n

-- the number of an ID, 0 where none was set
abbrev pub count_in : List (ℕ × ℕ) → ℕ → ℕ
count_in entries id = or_zero (lookup (nat_eq id) entries)
