pub mod Writing
pub mod Filling
pub mod Held
pub mod RowOfCycle
pub mod Known
pub use Rattle.run_model.proofs as run_model_lemmas
pub use Rattle.run_model.proofs.vidi_bits_lemmas as vidi_bits_lemmas
