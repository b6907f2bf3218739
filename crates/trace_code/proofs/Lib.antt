pub mod Examples
pub mod NoReset
pub mod Loop
pub mod Table
pub mod Names
pub mod Spelled
pub mod Readings
pub mod Fronts
pub mod Skips
pub mod NumberLaws
pub mod PacketLoop
pub mod PacketLaws
pub mod Overwriting
pub mod Picking
pub mod RowBytes
pub mod RowsBytes
pub mod Tallying
pub mod Totals
pub mod Masks
pub mod Counts
pub mod Here
pub mod Ahead
pub mod Walking
pub mod Content
pub mod Beside
pub use Rattle.vec_clock.proofs.trace_model_lemmas as trace_model_lemmas
pub use Rattle.vec_clock.proofs.vidi_bits_lemmas as vidi_bits_lemmas
