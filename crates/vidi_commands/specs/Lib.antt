pub mod Answer
pub mod Command
pub mod Said
pub use Rattle.sample_command.specs.bench_run as bench_run
pub use Rattle.wrap_command.specs.chan_map as chan_map
pub use Rattle.wrap_command.specs.env_script as env_script
pub use Rattle.wrap_command.specs.flat_parts as flat_parts
pub use Rattle.wrap_command.specs.net_order as net_order
pub use Rattle.sample_command.specs.replay_command as replay_command
pub use Rattle.sample_command.specs.replay_run as replay_run
pub use Rattle.wrap_command.specs.report_text as report_text
pub use Rattle.sample_command.specs.room_ledger as room_ledger
pub use Rattle.sample_command.specs.run_commands as run_commands
pub use Rattle.wrap_command.specs.run_model as run_model
pub use Rattle.sample_command.specs as sample_command
pub use Rattle.sample_command.specs.sample_gen as sample_gen
pub use Rattle.wrap_command.specs.shim_trees as shim_trees
pub use Rattle.sample_command.specs.trace_code as trace_code
pub use Rattle.trace_commands.specs as trace_commands
pub use Rattle.trace_commands.specs.trace_edit as trace_edit
pub use Rattle.trace_commands.specs.vidi_answer.trace_v2 as trace_v2
pub use Rattle.sample_command.specs.trace_compare as trace_compare
pub use Rattle.wrap_command.specs.trace_model as trace_model
pub use Rattle.wrap_command.specs.vidi_bench as vidi_bench
pub use Rattle.wrap_command.specs.vidi_bits as vidi_bits
pub use Rattle.wrap_command.specs.vidi_io as vidi_io
pub use Rattle.wrap_command.specs.vidi_lines as vidi_lines
pub use Rattle.sample_command.specs.vidi_recorder as vidi_recorder
pub use Rattle.wrap_command.specs.vlog_design as vlog_design
pub use Rattle.wrap_command.specs.vlog_driver as vlog_driver
pub use Rattle.wrap_command.specs.vlog_elab as vlog_elab
pub use Rattle.wrap_command.specs.vlog_lex as vlog_lex
pub use Rattle.wrap_command.specs.vlog_parse as vlog_parse
pub use Rattle.wrap_command.specs as wrap_command
