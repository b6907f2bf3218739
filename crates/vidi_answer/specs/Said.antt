-- *Said*: what several commands print (this project's profile). Every line ends with a newline, and numbers are decimal.
use Rattle.std.specs.Prelude.{ℕ, List, ◌++◌, codes, decimal}
use Rattle.report_text.specs.run_model.trace_model.declared.channel.Channel.{Channel}
use Rattle.report_text.specs.trace_compare.declared.report.Finding.{Finding}
use Rattle.report_text.specs.Report.{report_lines}
use Rattle.report_text.specs.Text.{newline}
pub use Rattle.report_text.specs.Report.{name_of}

-- the findings of two traces, and that they diverged
abbrev pub diverged_text : List Finding → List Channel → List ℕ
diverged_text report channels = report_lines report channels ++ (codes "diverged" ++ newline)

-- `recorded N cycles N packets`
abbrev pub recorded_line : ℕ → ℕ → List ℕ
recorded_line cycles packets =
    codes "recorded " ++ (decimal cycles ++ (codes " cycles " ++ (decimal packets ++ (codes " packets" ++ newline))))

-- `vidi: unstable CH cycle N`
abbrev pub unstable_line : List Channel → ℕ → ℕ → List ℕ
unstable_line channels c t = codes "vidi: unstable " ++ (name_of channels c ++ (codes " cycle " ++ (decimal t ++ newline)))
