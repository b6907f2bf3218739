pub mod Order
pub mod Graph
pub mod Turn
pub mod Search
pub mod Steps
pub mod Index
pub mod Reading
pub mod Run
pub use Rattle.vidi_bits.specs as vidi_bits
