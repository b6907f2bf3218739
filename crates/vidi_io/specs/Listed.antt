-- What a call of a memory shelf does, listed to fail or not.
use Rattle.std.specs.Prelude.{◌≡◌, ℕ, ◌⊎◌, ◌++◌, List, Option, None, Some, Result, Err, IsOk, length}
use Rattle.std.specs.FinMap.{insert}
use Rattle.vidi_io.specs.Entries.{files_of, Became, LacksRoom}
use Rattle.vidi_io.specs.Shelf.{bytes_of}
use Rattle.vidi_io.specs.declared.entries.Entry.{Entry}
use Rattle.vidi_io.specs.declared.fails.Fail.{Fail}
use Rattle.vidi_io.specs.declared.shelf.FetchError.{FetchError}
use Rattle.vidi_io.specs.declared.shelf.FetchError.TheVariants.{Missing, Failed}

-- a fetch of a name that isn't there is missing, of any other it fails where it is listed
abbrev pub FetchAnswer : Option (List ℕ) → Option Fail → Result ℕ FetchError → Type 0
FetchAnswer None listed result = result ≡ Err Missing
FetchAnswer (Some file) None result = IsOk result
FetchAnswer (Some file) (Some fail) result = result ≡ Err Failed

-- the told files after this front of a piece was added; without room for it they stay
abbrev pub KeptFront : List Entry → List Entry → List ℕ → List ℕ → Type 0
KeptFront old new name front = Became old new (insert (files_of old) name (bytes_of (files_of old) name ++ front))
    ⊎ (Became old new (files_of old) × LacksRoom old name (length front))
