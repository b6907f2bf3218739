pub mod Part
pub mod FlatPart
pub mod Maps
pub mod Plain
pub mod Nets
pub mod Wrapped
pub mod Ports
pub mod Recording
pub mod Replaying
pub mod OneRow
pub use Rattle.flat_parts.specs.vlog_driver as vlog_driver
pub use Rattle.flat_parts.specs.vlog_scope as vlog_scope
