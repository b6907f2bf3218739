-- What a shelf tells: a finite map from names to bytes, and how calls change it.
use Rattle.std.specs.Prelude.{◌≡◌, ℕ, ◌+◌, ◌-◌, ◌^◌, ◌<◌, ◌≤◌, ◌⊎◌, Bool, true, false, List, [], ◌++◌, Option, length, min, take, drop}
use Rattle.std.specs.Prelude.{unwrap_or, option_map}
use Rattle.std.specs.Ordering.{nat_cmp}
use Rattle.std.specs.Cmp.Lexicographic.{slice_cmp}
use Rattle.std.specs.FinMap.{FinMap, get, insert}

abbrev pub Files : Type 0
Files = FinMap (slice_cmp nat_cmp) (List ℕ)

-- the bytes of a file; one that isn't there counts as empty
abbrev pub bytes_of : Files → List ℕ → List ℕ
bytes_of files name = unwrap_or (get files name) []

-- a fetch of n bytes from a place of the file on, to the front of the buffer
pub record Gives (file : List ℕ) (at n : ℕ) (buf : List ℕ) : Type 0 where
  pub bytes : take n buf ≡ take n (drop at file)
  pub there : n ≤ length file - at
  pub at_end : n ≡ 0 → 0 < length buf → length file ≤ at

-- the told files with one of them set to these bytes, and all others as they were
abbrev pub holding : Option Files → List ℕ → List ℕ → Option Files
holding files name bytes = option_map (λ m. insert m name bytes) files

abbrev pub emptied : Option Files → List ℕ → Option Files
emptied files name = holding files name []

abbrev pub appended : Option Files → List ℕ → List ℕ → Option Files
appended files name piece = option_map (λ m. insert m name (bytes_of m name ++ piece)) files

-- after a failed append: as before, or grown by some prefix of the piece
abbrev pub GrewBySome : Option Files → Option Files → List ℕ → List ℕ → Type 0
GrewBySome old new name piece = (new ≡ old) ⊎ ((k : ℕ) × (new ≡ appended old name (take k piece)))

-- whether a file was started: exactly one start succeeded, or none. The count of starts stays at its last value.
abbrev pub HasStarted : ℕ → ℕ → Bool → Type 0
HasStarted before now true = now ≡ min (before + 1) (2 ^ 64 - 1)
HasStarted before now false = now ≡ before

-- no count fell
pub record Later (old_reads new_reads : List ℕ → ℕ) (old_writes new_writes : ℕ) : Type 0 where
  pub reads : (name : List ℕ) → old_reads name ≤ new_reads name
  pub writes : old_writes ≤ new_writes

-- no count rose
pub record SameCounts (old_reads new_reads : List ℕ → ℕ) (old_writes new_writes : ℕ) : Type 0 where
  pub reads : (name : List ℕ) → new_reads name ≡ old_reads name
  pub writes : new_writes ≡ old_writes
