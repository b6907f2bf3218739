mod Entering
pub mod Zips
pub mod States
pub mod Ports
pub mod HeldPorts
pub mod Tables
mod RecordPorts
mod RecordTops
mod RecordCycle
mod Shells
mod Calls
mod SameRecords
mod Pieces
mod Sides
mod FedInputs
mod ShownRow
mod FeedPorts
mod ReplayRow
mod ReplayClock
mod ReplayCycle
mod Rerun
mod Recalls
mod SameReplays
pub use Rattle.replay_run.proofs as replay_run_lemmas
pub use Rattle.replay_run.proofs.chan_monitor_lemmas as chan_monitor_lemmas
pub use Rattle.replay_run.proofs.run_model_lemmas as run_model_lemmas
pub use Rattle.replay_run.proofs.trace_model_lemmas as trace_model_lemmas
