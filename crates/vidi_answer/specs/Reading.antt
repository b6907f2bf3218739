-- How the files of a command are read, where ReadFailed says of which names a read has failed.
use Rattle.std.specs.Prelude.{◌≡◌, ℕ, ◌<◌, ◌≤◌, ◌⊎◌, List, Option, None, IfSome, IsSomeAnd, length}
use Rattle.std.specs.FinMap.{get}
use Rattle.report_text.specs.vidi_io.Shelf.{Files}
use Rattle.report_text.specs.declared.reason.Word.{Word}
use Rattle.report_text.specs.declared.reason.Reason.TheVariants.{TooLong}
use Rattle.report_text.specs.Reason.{read_fault_line}
use Rattle.vidi_answer.specs.declared.status.Status.TheVariants.{ReadFault}
use Rattle.vidi_answer.specs.Steps.{Ending, IsSaid, IsRefusal, Step}

-- where the shelf tells its files: the file of this name is there, and P holds of its bytes
abbrev pub Told : Option Files → List ℕ → (List ℕ → Type 0) → Type 0
Told files name P = IfSome files (λ m. IsSomeAnd (get m name) P)

-- where the shelf tells its files: there is no file of this name
abbrev pub Absent : Option Files → List ℕ → Type 0
Absent files name = IfSome files (λ m. get m name ≡ None)

-- the file isn't there, or a read of it failed; or it has more bytes than its limit
abbrev pub IsUnread : ℕ → Word → List ℕ → Option Files → (List ℕ → Type 0) → Ending
IsUnread limit word name files ReadFailed status text =
    ((Absent files name ⊎ ReadFailed name) × IsSaid (ReadFault word) (read_fault_line word) status text)
    ⊎ (Told files name (λ file. limit < length file) × IsRefusal word (TooLong limit) status text)

abbrev pub IsRead : ℕ → List ℕ → Option Files → List ℕ → Type 0
IsRead limit name files file = Told files name (λ told. told ≡ file) × (length file ≤ limit)

-- the file is read, and this comes of its bytes
abbrev pub Reading : ℕ → Word → List ℕ → Option Files → (List ℕ → Type 0) → (List ℕ → Ending) → Ending
Reading limit word name files ReadFailed Next = Step (IsUnread limit word name files ReadFailed) (IsRead limit name files) Next
