pub mod Turning
pub mod Stretching
pub mod Silent
pub use Rattle.chan_replayer.proofs as chan_replayer_lemmas
pub use Rattle.chan_replayer.proofs.chan_monitor_lemmas as chan_monitor_lemmas
pub use Rattle.chan_replayer.proofs.run_model_lemmas as run_model_lemmas
pub use Rattle.chan_replayer.proofs.trace_model_lemmas as trace_model_lemmas
pub mod After
pub mod Unreset
