-- *Said*: what `replay` prints (this project's profile). Every line ends with a newline, and numbers are decimal.
use Rattle.std.specs.Prelude.{ℕ, List, ◌++◌, codes, decimal}
use Rattle.vidi_bench.specs.report_text.Text.{newline}
pub use Rattle.vidi_bench.specs.Said.{unstable_line}

-- `replayed N cycles, no divergence`
abbrev pub replayed_line : ℕ → List ℕ
replayed_line cycles = codes "replayed " ++ (decimal cycles ++ (codes " cycles, no divergence" ++ newline))
