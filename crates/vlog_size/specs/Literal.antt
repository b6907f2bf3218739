-- The widths and numbers of literals (IEEE 1364-2005, 3.5.1; this project's profile).
use Rattle.std.specs.Prelude.{ℕ, ◌+◌, ◌-◌, ◌*◌, ◌%◌, ◌^◌, Bool, false, ◌==◌, ◌&&◌, ◌||◌, not, nat_lt, nat_le, if◌then◌else◌, List, []}
use Rattle.std.specs.Prelude.{◌∷◌, Option, Some, None, is_none}
use Rattle.std.specs.List.{before_first, after_first}
use Rattle.vlog_tree.specs.declared.expr.NumberKind.{NumberKind}
use Rattle.vlog_tree.specs.declared.expr.NumberKind.TheVariants.{Decimal, Based}
use Rattle.vlog_tree.specs.vidi_bits.Findings.{is_nil}
use Rattle.vlog_tree.specs.vidi_bits.Limits.{below_top}

-- `0` to `9`, `A` to `F`, `a` to `f`
abbrev pub digit : ℕ → ℕ
digit b = if nat_le b 57 then b - 48 else (if nat_le b 70 then b - 55 else b - 87)

-- b, o or h in either case; else d
abbrev pub base_of : ℕ → ℕ
base_of letter =
    if (letter == 98) || (letter == 66) then 2 else
    (if (letter == 111) || (letter == 79) then 8 else
    (if (letter == 104) || (letter == 72) then 16 else 10))

-- the number n with these digits after it; `_` doesn't count
abbrev pub digits_from : ℕ → ℕ → List ℕ → ℕ
digits_from base n [] = n
digits_from base n (b ∷ text) = digits_from base (if b == 95 then n else n * base + digit b) text

-- 1 to 128
abbrev pub is_lawful : ℕ → Bool
is_lawful w = nat_lt 0 w && nat_le w 128

-- `'`
abbrev pub is_quote : ℕ → Bool
is_quote b = b == 39

-- what stands before `'`
abbrev pub before_quote : List ℕ → List ℕ
before_quote text = before_first is_quote text

-- what stands after `'`
abbrev pub after_quote : List ℕ → List ℕ
after_quote text = after_first is_quote text

-- a base's letter and digits
abbrev pub based_number : List ℕ → ℕ
based_number [] = 0
based_number (letter ∷ digits) = digits_from (base_of letter) 0 digits

-- without a size 32
abbrev pub size_of : List ℕ → ℕ
size_of size = if is_nil size then 32 else digits_from 10 0 size

-- a literal's width
abbrev pub literal_width : NumberKind → List ℕ → ℕ
literal_width Decimal text = 32
literal_width Based text = size_of (before_quote text)

-- a based literal without a size
abbrev pub is_unsized_literal : NumberKind → List ℕ → Bool
is_unsized_literal Decimal text = false
is_unsized_literal Based text = is_nil (before_quote text)

-- the number that is spelled, below 2^128
abbrev pub spelled_number : NumberKind → List ℕ → Option ℕ
spelled_number Decimal text = below_top (digits_from 10 0 text)
spelled_number Based text = below_top (based_number (after_quote text))

-- a number too large loses its upper bits
abbrev pub trimmed : Option ℕ → ℕ → Option ℕ
trimmed None w = None
trimmed (Some n) w = if is_lawful w then Some (n % 2 ^ w) else None

-- the number of a literal of lawful size
abbrev pub literal_number : NumberKind → List ℕ → Option ℕ
literal_number Decimal text = spelled_number Decimal text
literal_number Based text = trimmed (spelled_number Based text) (literal_width Based text)

-- a number of 2^128 or more, or a size of 0 or above 128
abbrev pub is_bad_literal : NumberKind → List ℕ → Bool
is_bad_literal kind text = is_none (spelled_number kind text) || not (is_lawful (literal_width kind text))
