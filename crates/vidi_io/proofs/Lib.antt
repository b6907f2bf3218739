pub mod Fronts
pub mod Names
pub mod Started
pub mod Sent
pub mod Whole
pub mod Cut
pub use Rattle.vidi_bits.proofs as vidi_bits_lemmas
