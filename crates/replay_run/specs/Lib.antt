pub mod Epochs
pub mod Behind
pub mod Feeding
pub mod Lists
pub mod Output
pub mod Ended
pub mod Standing
pub mod Replaying
pub mod Laws
pub use Rattle.run_stage.specs.chan_map as chan_map
pub use Rattle.run_stage.specs.chan_monitor as chan_monitor
pub use Rattle.run_stage.specs.chan_replayer as chan_replayer
pub use Rattle.run_laws.specs as run_laws
pub use Rattle.run_stage.specs.run_model as run_model
pub use Rattle.run_stage.specs as run_stage
pub use Rattle.trace_code.specs as trace_code
pub use Rattle.trace_code.specs.trace_model as trace_model
