pub mod Counting
pub mod Mask
pub mod Channel
pub mod Packet
pub mod Epoch
pub mod Trace
pub mod Clock
pub mod Length
pub mod Row
pub mod Recording
pub mod Stability
pub mod Laws
pub use Rattle.vidi_bits.specs as vidi_bits
