pub mod Said
pub mod Shims
pub mod Wraps
pub use Rattle.shim_gen.specs.chan_map as chan_map
pub use Rattle.vidi_bench.specs.env_script as env_script
pub use Rattle.vidi_bench.specs.flat_parts as flat_parts
pub use Rattle.vidi_bench.specs.net_order as net_order
pub use Rattle.vidi_bench.specs.report_text as report_text
pub use Rattle.vidi_bench.specs.run_model as run_model
pub use Rattle.shim_gen.specs.shim_trees as shim_trees
pub use Rattle.shim_gen.specs.trace_model as trace_model
pub use Rattle.vidi_bench.specs as vidi_bench
pub use Rattle.vlog_print.specs.vidi_bits as vidi_bits
pub use Rattle.vidi_bench.specs.vidi_io as vidi_io
pub use Rattle.shim_gen.specs.vidi_lines as vidi_lines
pub use Rattle.vidi_bench.specs.vlog_design as vlog_design
pub use Rattle.vidi_bench.specs.vlog_driver as vlog_driver
pub use Rattle.vidi_bench.specs.vlog_elab as vlog_elab
pub use Rattle.vlog_print.specs.vlog_lex as vlog_lex
pub use Rattle.vlog_print.specs.vlog_parse as vlog_parse
