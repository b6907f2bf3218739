pub mod Forms
pub mod Follow
pub mod Text
pub mod Seen
pub mod Ports
pub mod Reasons
pub mod Sockets
pub mod Bound
pub mod Times
pub mod Parts
pub mod Places
pub mod Told
pub mod Laws
pub use Rattle.trace_model.specs as trace_model
pub use Rattle.vidi_lines.specs.vidi_bits as vidi_bits
pub use Rattle.vidi_lines.specs as vidi_lines
