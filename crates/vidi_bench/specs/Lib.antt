pub mod Benches
pub mod Design
pub mod Devices
pub mod Reasons
pub use Rattle.vidi_answer.specs.AnswerText as AnswerText
pub use Rattle.vidi_answer.specs.Ended as Ended
pub use Rattle.vidi_answer.specs.Exit as Exit
pub use Rattle.vidi_answer.specs.Reading as Reading
pub use Rattle.vidi_answer.specs.Said as Said
pub use Rattle.vidi_answer.specs.Steps as Steps
pub use Rattle.vidi_answer.specs.Traces as Traces
pub use Rattle.vidi_answer.specs.Unfetched as Unfetched
pub use Rattle.vidi_answer.specs.Usage as Usage
pub use Rattle.env_script.specs as env_script
pub use Rattle.vlog_design.specs.flat_parts as flat_parts
pub use Rattle.vlog_design.specs.net_order as net_order
pub use Rattle.vidi_answer.specs.report_text as report_text
pub use Rattle.env_script.specs.run_model as run_model
pub use Rattle.vidi_answer.specs.trace_code as trace_code
pub use Rattle.vidi_answer.specs.trace_compare as trace_compare
pub use Rattle.vidi_answer.specs as vidi_answer
pub use Rattle.vidi_answer.specs.vidi_io as vidi_io
pub use Rattle.vlog_design.specs as vlog_design
pub use Rattle.vlog_design.specs.vlog_driver as vlog_driver
pub use Rattle.vlog_design.specs.vlog_elab as vlog_elab
pub use Rattle.vlog_design.specs.vlog_hierarchy as vlog_hierarchy
