pub mod Epochs
pub mod Renumbered
pub mod Stretched
pub mod Forward
pub mod Placing
pub mod Fills
pub mod Listing
pub mod Writing
pub mod Playing
pub mod Prefix
pub mod Answering
pub mod Replays
pub mod Fronts
pub mod Outcomes
pub use Rattle.run_stage.proofs.chan_monitor_lemmas as chan_monitor_lemmas
pub use Rattle.run_stage.proofs.chan_replayer_lemmas as chan_replayer_lemmas
pub use Rattle.run_stage.proofs.run_model_lemmas as run_model_lemmas
pub use Rattle.trace_code.proofs.trace_model_lemmas as trace_model_lemmas
