pub mod Cause
pub mod Entries
pub mod Fails
pub mod Listed
pub mod Reading
pub mod Shelf
pub mod Sink
pub mod MemShelf
pub mod MemSink
pub mod FixedSink
pub mod ShelfSink
pub mod Writing
pub use Rattle.vidi_bits.specs as vidi_bits
