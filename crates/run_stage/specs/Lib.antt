pub mod Given
pub mod Playing
pub mod Stretching
pub use Rattle.chan_replayer.specs.chan_map as chan_map
pub use Rattle.chan_replayer.specs.chan_monitor as chan_monitor
pub use Rattle.chan_replayer.specs as chan_replayer
pub use Rattle.chan_replayer.specs.run_model as run_model
pub use Rattle.chan_replayer.specs.trace_model as trace_model
