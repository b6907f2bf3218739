-- What the reader of files means: what is spelled is read, and what is read is spelled.
use Rattle.std.specs.Prelude.{◌≡◌, ◌≤◌, ℕ, Some, length, option_map, []}
use Rattle.vlog_tree.specs.Lines.{bare}
use Rattle.vlog_tree.specs.Tree.{FileOf}
use Rattle.vlog_tree.specs.Spelling.{file_words}
use Rattle.vlog_tree.specs.Shape.{IsGood}
use Rattle.vlog_item.specs.vlog_expr.Marks.{Toks, spell, AreWords, AreLawful}
use Rattle.vlog_item.specs.vlog_expr.Bare.{forget_all}
use Rattle.vlog_item.specs.vlog_expr.Reader.{fuel_for}
use Rattle.vlog_item.specs.vlog_expr.Laws.{Holds}
use Rattle.vlog_parse.specs.FileReader.{file_at}

-- the tokens of a file of good shape are read as it
abbrev pub FilesAreRead : Type 0
FilesAreRead = (f : FileOf (Unit {0})) (fuel : ℕ) → IsGood f → fuel_for (length (file_words f)) ≤ fuel
    → file_at fuel (spell tt (file_words f) []) ≡ Some f

abbrev pub ReadFilesAreSpelled : Type 0 → Type 0
ReadFilesAreSpelled A = (fuel : ℕ) (ws : Toks A) → AreLawful ws → Holds (file_at fuel ws)
    (λ f. IsGood f × AreWords (file_words f) ws [])

abbrev pub FileLinesDontCount : Type 0 → Type 0
FileLinesDontCount A = (fuel : ℕ) (ws : Toks A) → file_at fuel (forget_all ws) ≡ option_map bare (file_at fuel ws)
