pub mod Masks
pub mod Totals
pub mod Emission
pub mod Raising
pub mod Reserving
pub mod GateLaws
pub mod Following
pub mod Existence
pub mod Books
mod Examples
pub use Rattle.trace_model.proofs.vidi_bits_lemmas as vidi_bits_lemmas
