pub mod PortLemmas
pub mod BlockLemmas
pub mod StepLemmas
pub mod FeedLemmas
pub use Rattle.run_model.proofs as run_model_lemmas
pub use Rattle.run_model.proofs.trace_model_lemmas as trace_model_lemmas
