pub mod Different
pub mod Examples
pub mod Firsts
pub mod KindsExamples
pub mod Places
pub mod Twice
pub use Rattle.vlog_size.proofs.vidi_bits_lemmas as vidi_bits_lemmas
