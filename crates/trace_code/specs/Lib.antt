pub mod Encoding
pub mod NoReset
pub mod Decoding
pub mod Salvage
pub mod Reading
pub mod PacketReading
pub mod Skipping
pub mod Writing
pub mod Tallied
pub mod Counted
pub mod Heads
pub mod Standing
pub mod Stands
pub use Rattle.vec_clock.specs.trace_model as trace_model
pub use Rattle.vec_clock.specs.vidi_bits as vidi_bits
