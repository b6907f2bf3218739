pub mod Spans
pub mod Numbers
pub mod Longest
pub mod Solid
pub mod Lookup
pub mod Gaps
pub mod Apart
pub mod Readings
pub mod Sample
pub use Rattle.vidi_bits.proofs as vidi_bits_lemmas
