pub mod Span
pub mod Words
pub mod Lexeme
pub mod Gap
pub mod Reading
pub mod Front
pub use Rattle.vidi_bits.specs as vidi_bits
