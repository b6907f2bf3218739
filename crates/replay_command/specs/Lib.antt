pub mod Replays
pub mod Said
pub use Rattle.replay_run.specs as replay_run
pub use Rattle.vidi_bench.specs.report_text as report_text
pub use Rattle.replay_run.specs.trace_code as trace_code
pub use Rattle.vidi_bench.specs.trace_compare as trace_compare
pub use Rattle.vidi_bench.specs as vidi_bench
pub use Rattle.vidi_bench.specs.vidi_io as vidi_io
