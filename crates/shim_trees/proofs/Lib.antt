pub mod Names
pub mod Pieces
pub mod Modules
pub mod Wrapped
pub use Rattle.chan_map.proofs.trace_model_lemmas as trace_model_lemmas
