pub mod Needs
pub mod Feed
pub mod Fed
pub mod Shell
pub mod Laws
pub use Rattle.chan_monitor.specs.chan_map as chan_map
pub use Rattle.chan_monitor.specs as chan_monitor
pub use Rattle.chan_monitor.specs.run_model as run_model
pub use Rattle.vec_clock.specs.trace_model as trace_model
