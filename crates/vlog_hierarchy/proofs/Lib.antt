pub mod Added
mod ClockExamples
pub mod Closed
pub mod Deeper
mod Examples
pub mod Labelled
pub mod Many
pub mod Marks
pub mod PlaceLaws
pub mod Reaching
pub mod Scoped
pub use Rattle.vlog_size.proofs.vidi_bits_lemmas as vidi_bits_lemmas
pub use Rattle.vlog_size.proofs as vlog_size_lemmas
