mod Wraps
pub use Rattle.shim_cosim.proofs.chan_monitor_lemmas as chan_monitor_lemmas
pub use Rattle.shim_cosim.proofs.replay_run_lemmas as replay_run_lemmas
pub use Rattle.shim_cosim.proofs.run_model_lemmas as run_model_lemmas
pub use Rattle.shim_cosim.proofs.trace_model_lemmas as trace_model_lemmas
