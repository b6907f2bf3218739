-- The reasons of a script and of a plan of stalls (this project's profile).
use Rattle.std.specs.Prelude.{ℕ, List, ◌++◌, codes, decimal}

-- `too small need N given N`
abbrev pub small_text : ℕ → ℕ → List ℕ
small_text need given = (codes "too small need " ++ decimal need) ++ (codes " given " ++ decimal given)

-- `wave too long nets N cycles N`
abbrev pub wave_long_text : ℕ → ℕ → List ℕ
wave_long_text nets cycles = (codes "wave too long nets " ++ decimal nets) ++ (codes " cycles " ++ decimal cycles)
