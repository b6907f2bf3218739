pub mod Clock
pub mod Told
pub mod Labels
pub mod Laws
pub mod Nested
pub mod Nodes
pub mod Outlines
pub mod Places
pub mod Plain
pub mod Reach
pub use Rattle.vlog_size.specs.vidi_bits as vidi_bits
pub use Rattle.vlog_size.specs as vlog_size
