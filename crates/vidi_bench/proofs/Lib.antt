pub mod QuietTexts
pub mod Wired
pub mod DriverLines
pub use Rattle.env_script.proofs as env_script_lemmas
pub use Rattle.vlog_design.proofs.net_order_lemmas as net_order_lemmas
pub use Rattle.env_script.proofs.run_model_lemmas as run_model_lemmas
pub use Rattle.vidi_answer.proofs.Chain as Chain
pub use Rattle.vidi_answer.proofs.Quiet as Quiet
pub use Rattle.vidi_answer.proofs.QuietDecoding as QuietDecoding
pub use Rattle.vidi_answer.proofs.vidi_io_lemmas as vidi_io_lemmas
