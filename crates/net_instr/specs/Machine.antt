-- What instructions mean: each changes a list of numbers, the slots, and may leave out some that follow it.
use Rattle.std.specs.Prelude.{ℕ, zero, suc, ◌+◌, ◌-◌, ◌*◌, ◌/◌, ◌%◌, ◌^◌, ◌==◌, ◌≤◌, min, nat_lt, if◌then◌else◌}
use Rattle.std.specs.Prelude.{◌<◌, bit_and, bit_or, bit_xor, List, [], ◌∷◌, slice_index, slice_set}
use Rattle.std.specs.List.{AllByRecursion}
use Rattle.net_design.specs.vidi_bits.Number.{IsWidth, part_of, put_of, difference, repeated, side_by_side, truth}
use Rattle.net_design.specs.vidi_bits.Operators.{unary_number, binary_number}
use Rattle.net_instr.specs.declared.instr.Step.{Step}
use Rattle.net_instr.specs.declared.instr.Step.TheVariants.{Number, Copy, Slice, And, Or, Xor, Add, Subtract, Less, Equal, LogicalNot}
use Rattle.net_instr.specs.declared.instr.Step.TheVariants.{Unary, Binary, Choose, Join, Repeat, Select, Word}
use Rattle.net_instr.specs.declared.instr.Instr.{Instr}
use Rattle.net_instr.specs.declared.instr.Instr.TheVariants.{Do, Put, PutFrom, PutWord, PutWordFrom, SkipIfZero, Skip}

-- the number that a step gives where the slots are s
abbrev pub number_of : Step → List ℕ → ℕ
number_of (Number n) s = n
number_of (Copy a) s = slice_index s a
number_of (Slice a low w) s = part_of (slice_index s a) low w
number_of (And a b) s = bit_and (slice_index s a) (slice_index s b)
number_of (Or a b) s = bit_or (slice_index s a) (slice_index s b)
number_of (Xor a b) s = bit_xor (slice_index s a) (slice_index s b)
number_of (Add a b w) s = (slice_index s a + slice_index s b) % 2 ^ w
number_of (Subtract a b w) s = difference (slice_index s a) (slice_index s b) w
number_of (Less a b) s = truth (nat_lt (slice_index s a) (slice_index s b))
number_of (Equal a b) s = truth (slice_index s a == slice_index s b)
number_of (LogicalNot a) s = truth (slice_index s a == 0)
number_of (Unary op a w) s = unary_number op (slice_index s a) w
number_of (Binary op a b w) s = binary_number op (slice_index s a) (slice_index s b) w
number_of (Choose c a b) s = if slice_index s c == 0 then slice_index s b else slice_index s a
number_of (Join high low x y) s = side_by_side (slice_index s high) (slice_index s low) x y
number_of (Repeat n a w) s = repeated n (slice_index s a) w
number_of (Select a i w) s = part_of (slice_index s a) (slice_index s i) w
number_of (Word first length i) s = if nat_lt (slice_index s i) length then slice_index s (first + slice_index s i) else 0

-- the w bits of slot k from bit low on replaced by those of x
abbrev pub put_at : List ℕ → ℕ → ℕ → ℕ → ℕ → List ℕ
put_at s k low w x = slice_set s k (put_of (slice_index s k) low w x)

-- w bits of slot k from place i on, of the `size` bits from bit low on, as far as there are that many
abbrev pub put_from : List ℕ → ℕ → ℕ → ℕ → ℕ → ℕ → ℕ → List ℕ
put_from s k low size i w x = if nat_lt i size then put_at s k (low + i) (min w (size - i)) x else s

-- the slots after an instruction
abbrev pub changed : Instr → List ℕ → List ℕ
changed (Do to step) s = slice_set s to (number_of step s)
changed (Put to low w a rest) s = put_at s to low w (slice_index s a / 2 ^ rest)
changed (PutFrom to low size i w a rest) s = put_from s to low size (slice_index s i) w (slice_index s a / 2 ^ rest)
changed (PutWord first length i low w a rest) s =
    if nat_lt (slice_index s i) length then put_at s (first + slice_index s i) low w (slice_index s a / 2 ^ rest) else s
changed (PutWordFrom first length i size j w a rest) s =
    if nat_lt (slice_index s i) length
    then put_from s (first + slice_index s i) 0 size (slice_index s j) w (slice_index s a / 2 ^ rest) else s
changed (SkipIfZero c n) s = s
changed (Skip n) s = s

-- how many of the next instructions are left out
abbrev pub skips : Instr → List ℕ → ℕ
skips (SkipIfZero c n) s = if slice_index s c == 0 then n else 0
skips (Skip n) s = n
skips i s = 0

-- the slots after code of which the first k instructions are left out
abbrev pub exec : List Instr → ℕ → List ℕ → List ℕ
exec [] k s = s
exec (i ∷ code) zero s = exec code (skips i s) (changed i s)
exec (i ∷ code) (suc k) s = exec code k s

-- a step that the machine can take: its widths are 1 to 128
abbrev pub IsStep : Step → Type 0
IsStep (Slice a low w) = IsWidth w
IsStep (Add a b w) = IsWidth w
IsStep (Subtract a b w) = IsWidth w
IsStep (Unary op a w) = IsWidth w
IsStep (Binary op a b w) = IsWidth w
IsStep (Join high low x y) = IsWidth x × IsWidth y × (x + y ≤ 128)
IsStep (Repeat n a w) = (1 ≤ n) × IsWidth w × (n * w ≤ 128)
IsStep (Select a i w) = IsWidth w
IsStep step = Unit {0}

abbrev pub IsInstr : Instr → Type 0
IsInstr (Do to step) = IsStep step
IsInstr (Put to low w a rest) = IsWidth w
IsInstr (PutFrom to low size i w a rest) = IsWidth w × (low + size ≤ 128)
IsInstr (PutWord first length i low w a rest) = IsWidth w
IsInstr (PutWordFrom first length i size j w a rest) = IsWidth w × (size ≤ 128)
IsInstr i = Unit {0}

-- a step is taken into one of the first slots
abbrev pub IsBelow : ℕ → Instr → Type 0
IsBelow limit (Do to step) = to < limit
IsBelow limit i = Unit {0}

abbrev pub AreBelow : ℕ → List Instr → Type 0
AreBelow limit code = AllByRecursion (IsBelow limit) code

-- code that the machine can take
abbrev pub AreSafe : List Instr → Type 0
AreSafe code = AllByRecursion IsInstr code
