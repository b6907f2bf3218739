-- Lemmas of crates below that functions of this crate name for their goals.
pub use Rattle.trace_code.proofs.trace_model_lemmas.LengthLemmas.{longest}
