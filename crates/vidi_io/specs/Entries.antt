-- What a memory shelf holds: a list of entries, of which the first of a name counts.
use Rattle.std.specs.Prelude.{◌≡◌, ◌≢◌, ℕ, ◌+◌, ◌<◌, ◌≤◌, if◌then◌else◌, List, [], ◌∷◌, Option, None, Some, IsSome, length, option_map}
use Rattle.std.specs.Prelude.{unwrap_or, IfSome, IsSomeAnd, vec_capacity}
use Rattle.std.specs.List.{find}
use Rattle.std.specs.Str.{bytes_eq}
use Rattle.std.specs.FinMap.{get, empty, insert, remove}
use Rattle.vidi_io.specs.Cause.{Rose}
use Rattle.vidi_io.specs.Shelf.{Files, bytes_of}
use Rattle.vidi_io.specs.declared.entries.Entry.{Entry}

-- the first entry of this name
abbrev pub entry_of : List Entry → List ℕ → Option Entry
entry_of entries name = find (λ e. bytes_eq name e.name) entries

-- the told files: of each name the file of its first entry, if it is there
abbrev pub files_of : List Entry → Files
files_of [] = empty
files_of (e ∷ es) = if e.there then insert (files_of es) e.name e.bytes.items else remove (files_of es) e.name

-- how many reads of a name have failed, which stands beside its file
abbrev pub faults_of : List Entry → List ℕ → ℕ
faults_of entries name = unwrap_or (option_map (λ e. e.faults) (entry_of entries name)) 0

-- how long the file of a name may grow with no more memory, where room was taken for the name
abbrev pub room_of : List Entry → List ℕ → Option ℕ
room_of entries name = option_map (λ e. vec_capacity e.bytes) (entry_of entries name)

-- the file of one entry, if it is there
abbrev pub file_in : Entry → Option (List ℕ)
file_in e = if e.there then Some e.bytes.items else None

-- no room was lost
abbrev pub RoomsStay : List Entry → List Entry → Type 0
RoomsStay old new = (name : List ℕ) → IfSome (room_of old name) (λ room. IsSomeAnd (room_of new name) (λ now. room ≤ now))

-- the told files became these, no read failed and no room was lost
pub record Became (old new : List Entry) (files : Files) : Type 0 where
  pub are : files_of new ≡ files
  pub faults : (name : List ℕ) → faults_of new name ≡ faults_of old name
  pub rooms : RoomsStay old new

-- no room was taken that holds n bytes more of this file
abbrev pub LacksRoom : List Entry → List ℕ → ℕ → Type 0
LacksRoom entries name n = IfSome (room_of entries name) (λ room. room < length (bytes_of (files_of entries) name) + n)

-- a read of this name failed, of a file that is there
pub record ReadFailed (old new : List Entry) (name : List ℕ) : Type 0 where
  pub there : IsSome (get (files_of old) name)
  pub files : files_of new ≡ files_of old
  pub rose : Rose (faults_of old name) (faults_of new name)
  pub later : (q : List ℕ) → faults_of old q ≤ faults_of new q
  pub alone : (q : List ℕ) → q ≢ name → faults_of new q ≡ faults_of old q
  pub rooms : RoomsStay old new
