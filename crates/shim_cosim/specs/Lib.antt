pub mod Top
pub mod Held
pub mod Recorded
pub mod Recording
pub mod Records
pub mod Rewrapped
pub mod Replaying
pub mod Replays
pub use Rattle.replay_run.specs.chan_map as chan_map
pub use Rattle.replay_run.specs.chan_monitor as chan_monitor
pub use Rattle.replay_run.specs.chan_replayer as chan_replayer
pub use Rattle.net_sim.specs.net_order as net_order
pub use Rattle.vidi_recorder.specs.room_ledger as room_ledger
pub use Rattle.replay_run.specs.run_model as run_model
pub use Rattle.replay_run.specs.run_stage as run_stage
pub use Rattle.vidi_recorder.specs.env_script as env_script
pub use Rattle.replay_run.specs.trace_code as trace_code
pub use Rattle.replay_run.specs.trace_model as trace_model
pub use Rattle.vidi_recorder.specs as vidi_recorder
pub use Rattle.vlog_design.specs as vlog_design
