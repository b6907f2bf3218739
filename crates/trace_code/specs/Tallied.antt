-- Counts of which the last are kept apart.
use Rattle.std.specs.Prelude.{ℕ, ◌+◌, ◌*◌, List, length, map, slice_index}
use Rattle.std.specs.List.{range_with_len}
use Rattle.std.specs.Int.{bit_at}

-- the counts, and `times` more of each channel that `ends` names
abbrev pub tallied : List ℕ → ℕ → ℕ → List ℕ
tallied counts ends times = map (λ c. slice_index counts c + times * bit_at ends c) (range_with_len 0 (length counts))
