-- *Said*: what `wrap` prints (this project's profile). Every line ends with a newline, and numbers are decimal.
use Rattle.std.specs.Prelude.{ℕ, List, ◌++◌, codes, decimal}
use Rattle.vidi_bench.specs.report_text.Text.{newline}

-- `wrapped N channels`
abbrev pub wrapped_line : ℕ → List ℕ
wrapped_line n = codes "wrapped " ++ (decimal n ++ (codes " channels" ++ newline))
