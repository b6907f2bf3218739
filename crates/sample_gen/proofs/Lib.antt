pub mod Steps
pub mod Parts
pub mod Examples
pub mod Taken
pub mod Plans
pub mod Scripts
pub mod Binding
pub use Rattle.room_ledger.proofs as room_ledger_lemmas
pub use Rattle.room_ledger.proofs.vidi_bits_lemmas as vidi_bits_lemmas
