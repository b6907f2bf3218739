pub mod Chain
pub mod Names
pub mod Quiet
pub mod QuietDecoding
pub use Rattle.report_text.proofs.run_model_lemmas as run_model_lemmas
pub use Rattle.trace_v2.proofs.trace_code_lemmas as trace_code_lemmas
pub use Rattle.trace_v2.proofs as trace_v2_lemmas
pub use Rattle.report_text.proofs.vidi_io_lemmas as vidi_io_lemmas
