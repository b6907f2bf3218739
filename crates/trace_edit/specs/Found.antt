-- The first, or the last, number of a range that passes a test.
use Rattle.std.specs.Prelude.{◌≡◌, ℕ, ◌≤◌, ◌<◌, Bool, true, false, Option, None, Some, min}

-- of those from `low` up to before `high`
abbrev pub IsFirstOf : (ℕ → Bool) → ℕ → ℕ → Option ℕ → Type 0
IsFirstOf test low high None = (r : ℕ) → low ≤ r → r < high → test r ≡ false
IsFirstOf test low high (Some s) = (low ≤ s) × (s < high) × (test s ≡ true) × ((r : ℕ) → low ≤ r → r < s → test r ≡ false)

abbrev pub IsLastOf : (ℕ → Bool) → ℕ → ℕ → Option ℕ → Type 0
IsLastOf test low high None = (r : ℕ) → low ≤ r → r < high → test r ≡ false
IsLastOf test low high (Some s) = (low ≤ s) × (s < high) × (test s ≡ true) × ((r : ℕ) → s < r → r < high → test r ≡ false)

-- the lower of those that are there
abbrev pub lower : Option ℕ → Option ℕ → Option ℕ
lower None b = b
lower (Some x) None = Some x
lower (Some x) (Some y) = Some (min x y)
