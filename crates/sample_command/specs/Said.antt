-- *Said*: what `sample` prints (this project's profile). Every line ends with a newline, and numbers are decimal.
use Rattle.std.specs.Prelude.{ℕ, List, ◌++◌, codes}
use Rattle.replay_command.specs.report_text.Text.{newline}
use Rattle.run_commands.specs.Said.{counted}
use Rattle.sample_command.specs.declared.sampling.Figures.{Figures}
pub use Rattle.replay_command.specs.vidi_bench.Said.{diverged_text}

-- `sample N: stages N sends N cycles N packets N replay N`
abbrev pub sample_figures : Figures → List ℕ
sample_figures x = counted (codes "sample ") x.number ++ (counted (codes ": stages ") x.stages ++ (counted (codes " sends ") x.sends
    ++ counted (codes " cycles ") x.cycles))

abbrev pub sample_line : Figures → ℕ → ℕ → List ℕ
sample_line x packets replay = sample_figures x ++ (counted (codes " packets ") packets ++ (counted (codes " replay ") replay ++ newline))
