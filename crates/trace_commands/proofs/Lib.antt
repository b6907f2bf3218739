pub mod MovedTraces
pub mod Ported
pub mod QuietBursts
pub mod QuietTraces
pub mod WrittenTraces
pub use Rattle.vidi_answer.proofs.trace_code_lemmas as trace_code_lemmas
pub use Rattle.vidi_answer.proofs.trace_v2_lemmas as trace_v2_lemmas
