pub mod Value
pub mod Updates
pub mod Sized
pub mod Bits
pub mod Last
pub mod Settled
pub mod Names
pub mod Lawful
pub mod Example
pub mod Pins
pub use Rattle.vidi_bits.specs as vidi_bits
