-- What a sink over a shelf and a name shows. It starts its file at its first push that isn't empty.
use Rattle.std.specs.Prelude.{◌≡◌, ℕ, ◌≤◌, ◌⊎◌, Bool, List, [], Option, MatchBool, option_map, if◌then◌else◌}
use Rattle.vidi_io.specs.Shelf.{Files, HasStarted, bytes_of, holding, emptied}
use Rattle.vidi_io.specs.Sink.{Frame}

-- the bytes written, where the shelf tells its files: none before the file was started, and then the whole file
abbrev pub bytes_written : Bool → Option Files → List ℕ → Option (List ℕ)
bytes_written started files name = option_map (λ m. if started then bytes_of m name else []) files

-- The sink was made over this frame: the files of other names are those of the frame. Its own file is the bytes written once it
-- was started, for which exactly one start has succeeded; before that none has, and it is as in the frame, or empty where one failed. No
-- count of failed reads fell.
pub record IsOver (started : Bool) (files : Option Files) (name : List ℕ) (reads : List ℕ → ℕ) (starts : ℕ) (f : Frame) : Type 0 where
  pub same_name : name ≡ f.name
  pub others : MatchBool started ((bytes : List ℕ) × (files ≡ holding f.files name bytes))
      ((files ≡ f.files) ⊎ (files ≡ emptied f.files name))
  pub once : HasStarted f.starts starts started
  pub counts : (q : List ℕ) → f.reads q ≤ reads q
