pub mod Growing
pub mod PlainLaws
pub use Rattle.run_laws.proofs as run_laws_lemmas
pub use Rattle.run_stage.proofs.run_model_lemmas as run_model_lemmas
pub use Rattle.run_stage.proofs as run_stage_lemmas
