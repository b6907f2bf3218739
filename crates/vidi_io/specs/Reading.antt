-- Why a file couldn't be read whole.
use Rattle.std.specs.Prelude.{◌≡◌, ℕ, ◌<◌, ◌≤◌, ◌⊎◌, List, Option, None, Some, Result, Ok, Err, length, IfSome, IsSomeAnd}
use Rattle.std.specs.FinMap.{get}
use Rattle.vidi_io.specs.Cause.{Rose}
use Rattle.vidi_io.specs.Shelf.{Files}
use Rattle.vidi_io.specs.declared.reading.ReadError.{ReadError}
use Rattle.vidi_io.specs.declared.reading.ReadError.TheVariants.{Missing, Failed, TooLong, Memory}

-- the told files have no such name, its count of read faults rose, or its file is longer than the limit
abbrev pub ReadCause : ReadError → Option Files → List ℕ → ℕ → ℕ → ℕ → Type 0
ReadCause Missing files name limit before now = IfSome files (λ m. get m name ≡ None)
ReadCause Failed files name limit before now = Rose before now
ReadCause (TooLong given) files name limit before now = (given ≡ limit)
    × IfSome files (λ m. IsSomeAnd (get m name) (λ file. limit < length file))
ReadCause Memory files name limit before now = Unit {0}

-- what is answered of a told file, or of none, where no read of the name failed and memory was found
abbrev pub Whole : Option (List ℕ) → ℕ → Result (List ℕ) ReadError → Type 0
Whole None limit result = result ≡ Err Missing
Whole (Some file) limit result = ((length file ≤ limit) × (result ≡ Ok file)) ⊎ ((limit < length file) × (result ≡ Err (TooLong limit)))
