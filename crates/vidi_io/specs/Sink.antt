-- What a sink tells: the bytes written, and what it writes to.
use Rattle.std.specs.Prelude.{◌≡◌, ℕ, List, ◌++◌, Option}
use Rattle.std.specs.Io.KnownBytes.{append_known}
use Rattle.vidi_io.specs.Shelf.{Files}

-- a sink may write to the file of this name, over these files, of which so many reads had failed and so many starts had succeeded
pub record Frame : Type 0 where
  pub name : List ℕ
  pub files : Option Files
  pub reads : List ℕ → ℕ
  pub starts : ℕ

-- some prefix of the piece was added
pub record AppendsSome (old new : Option (List ℕ)) (piece : List ℕ) : Type 0 where
  pub kept : List ℕ
  pub lost : List ℕ
  pub split : piece ≡ kept ++ lost
  pub told : new ≡ append_known old kept
