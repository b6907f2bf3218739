pub mod Keys
pub mod Table
pub mod Follows
pub mod Counts
pub mod Found
pub mod Fitting
pub mod Tabled
pub mod Places
pub mod Covered
pub mod Bounds
pub mod OneText
pub mod OneBinding
pub use Rattle.trace_model.proofs as trace_model_lemmas
pub use Rattle.vidi_lines.proofs.vidi_bits_lemmas as vidi_bits_lemmas
