-- What is said where the words are none of the program's.
use Rattle.std.specs.Prelude.{ℕ, List, ◌++◌, codes}
use Rattle.report_text.specs.Text.{newline}

abbrev pub usage_line : List ℕ
usage_line = codes "vidi: usage" ++ newline
