-- The number that a word writes: decimal digits, or `0x` and hexadecimal digits (this project's profile).
use Rattle.std.specs.Prelude.{ℕ, ◌==◌, ◌&&◌, not, Bool, nat_lt, if◌then◌else◌, List, [], ◌∷◌, Option, None}
use Rattle.std.specs.Char.{digit_value}
use Rattle.std.specs.List.{list_all}
use Rattle.std.specs.Str.Parse.{digits_value}
use Rattle.vidi_bits.specs.Findings.{is_nil}
use Rattle.vidi_bits.specs.Limits.{below_top}

-- one digit of the base or more
abbrev pub is_digits : ℕ → List ℕ → Bool
is_digits base text = not (is_nil text) && list_all (λ b. nat_lt (digit_value b) base) text

-- the number that digits of the base write, where it is below 2^128
abbrev pub number_in : ℕ → List ℕ → Option ℕ
number_in base text = if is_digits base text then below_top (digits_value base text) else None

-- behind `0x` (48 and 120) hexadecimal digits of either case, else decimal digits
abbrev pub number_of : List ℕ → Option ℕ
number_of [] = None
number_of (a ∷ []) = number_in 10 (a ∷ [])
number_of (a ∷ b ∷ text) = if (a == 48) && (b == 120) then number_in 16 text else number_in 10 (a ∷ b ∷ text)
