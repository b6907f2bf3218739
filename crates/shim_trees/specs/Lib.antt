pub mod Pieces
pub mod Monitor
pub mod Replayer
pub mod Links
pub mod RecordTop
pub mod ReplayTop
pub mod Wrapped
pub mod Laws
pub use Rattle.chan_map.specs as chan_map
pub use Rattle.chan_map.specs.trace_model as trace_model
pub use Rattle.chan_map.specs.vidi_lines as vidi_lines
pub use Rattle.vlog_size.specs as vlog_size
