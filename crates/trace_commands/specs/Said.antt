-- *Said*: what the commands on traces print (this project's profile). Every line ends with a newline, and numbers are decimal.
use Rattle.std.specs.Prelude.{ℕ, List, ◌++◌, codes, decimal}
use Rattle.vidi_answer.specs.report_text.Text.{newline}
pub use Rattle.vidi_answer.specs.report_text.Trace.{dump_text}
pub use Rattle.vidi_answer.specs.Said.{diverged_text}

-- what `compare` prints of two traces without findings
abbrev pub no_divergence_line : List ℕ
no_divergence_line = codes "no divergence" ++ newline

-- this, and `N packets`
abbrev pub packets_line : List ℕ → ℕ → List ℕ
packets_line label n = label ++ (decimal n ++ (codes " packets" ++ newline))

-- `salvaged N packets`
abbrev pub salvaged_line : ℕ → List ℕ
salvaged_line = packets_line (codes "salvaged ")

-- `migrated N packets`
abbrev pub migrated_line : ℕ → List ℕ
migrated_line = packets_line (codes "migrated ")

-- `moved, N packets`
abbrev pub moved_line : ℕ → List ℕ
moved_line = packets_line (codes "moved, ")
