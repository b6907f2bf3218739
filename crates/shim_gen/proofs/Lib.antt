pub mod Each
pub mod Joined
pub mod Pushed
pub mod Tables
pub mod Upto
pub use Rattle.shim_trees.proofs.trace_model_lemmas as trace_model_lemmas
