pub mod AnswerText
pub mod Ended
pub mod Exit
pub mod Reading
pub mod Said
pub mod Steps
pub mod Traces
pub mod Unfetched
pub mod Usage
pub use Rattle.report_text.specs as report_text
pub use Rattle.trace_v2.specs.trace_code as trace_code
pub use Rattle.trace_v2.specs as trace_v2
pub use Rattle.report_text.specs.trace_compare as trace_compare
pub use Rattle.report_text.specs.vidi_io as vidi_io
