pub mod Pigeons
pub mod Masks
pub mod Sharing
pub mod Places
pub mod Covering
pub mod Offering
pub mod FedOffers
pub mod Feeding
pub use Rattle.chan_monitor.proofs as chan_monitor_lemmas
pub use Rattle.chan_monitor.proofs.run_model_lemmas as run_model_lemmas
pub use Rattle.vec_clock.proofs.trace_model_lemmas as trace_model_lemmas
