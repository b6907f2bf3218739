pub mod Lines
pub mod Number
pub use Rattle.vidi_bits.specs as vidi_bits
