-- The numbers that a value of 128 bits can hold.
use Rattle.std.specs.Prelude.{ℕ, ◌^◌, nat_lt, if◌then◌else◌, Option, Some, None}

-- a number below 2^128
abbrev pub below_top : ℕ → Option ℕ
below_top n = if nat_lt n (2 ^ 128) then Some n else None
