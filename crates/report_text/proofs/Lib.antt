pub mod Lines
pub mod Clocks
pub mod Packets
pub mod RowLines
mod ShortExamples
pub use Rattle.run_model.proofs as run_model_lemmas
pub use Rattle.text_page.proofs.vidi_io_lemmas as vidi_io_lemmas
