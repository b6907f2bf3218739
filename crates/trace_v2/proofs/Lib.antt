pub mod OldPackets
pub mod OldReadings
pub mod Migrated
pub use Rattle.trace_code.proofs as trace_code_lemmas
pub use Rattle.trace_code.proofs.trace_model_lemmas as trace_model_lemmas
pub use Rattle.trace_code.proofs.vidi_bits_lemmas as vidi_bits_lemmas
