pub mod Digits
pub mod Parts
mod Examples
pub use Rattle.vidi_bits.proofs as vidi_bits_lemmas
