-- A file that is written whole, or cut off: what is left of the files, and whether exactly one start succeeded or none, as Started tells.
use Rattle.std.specs.Prelude.{◌≡◌, ◌⊎◌, ℕ, Bool, true, false, List, Option, take}
use Rattle.vidi_io.specs.Shelf.{Files, emptied, holding}

-- no file was written: all are as before, and no start succeeded
abbrev pub IsKept : Option Files → (Bool → Type 0) → Option Files → Type 0
IsKept old Started new = (new ≡ old) × Started false

-- the file of this name was started exactly once, and holds these bytes
abbrev pub IsWritten : Option Files → List ℕ → List ℕ → (Bool → Type 0) → Option Files → Type 0
IsWritten old name bytes Started new = (new ≡ holding old name bytes) × Started true

-- no start succeeded, and the file of this name is as before or empty; or it was started exactly once, and holds a front of the bytes
abbrev pub IsCutOff : Option Files → List ℕ → List ℕ → (Bool → Type 0) → Option Files → Type 0
IsCutOff old name bytes Started new = (Started false × ((new ≡ old) ⊎ (new ≡ emptied old name)))
    ⊎ (Started true × (k : ℕ) × (new ≡ holding old name (take k bytes)))
