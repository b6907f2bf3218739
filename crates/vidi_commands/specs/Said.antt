-- *Said*: the printed texts (this project's profile), those of each command passed on. Every line ends with a newline.
use Rattle.std.specs.Prelude.{ℕ, List, ◌++◌, codes}
use Rattle.wrap_command.specs.report_text.Text.{newline}
pub use Rattle.wrap_command.specs.report_text.Reason.{read_fault_line, reason_line}
pub use Rattle.wrap_command.specs.report_text.Report.{name_of}
pub use Rattle.wrap_command.specs.vidi_bench.Usage.{usage_line}
pub use Rattle.trace_commands.specs.Said.{dump_text, no_divergence_line, diverged_text, salvaged_line, migrated_line, moved_line}
pub use Rattle.wrap_command.specs.Said.{wrapped_line}
pub use Rattle.sample_command.specs.run_commands.Said.{check_text, cycles_line, recorded_line, unstable_line}
pub use Rattle.sample_command.specs.replay_command.Said.{replayed_line}
pub use Rattle.sample_command.specs.Said.{sample_line}

abbrev pub memory_line : List ℕ
memory_line = codes "vidi: out of memory" ++ newline
