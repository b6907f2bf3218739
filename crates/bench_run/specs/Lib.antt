pub mod Plain
pub mod Playing
pub mod Laws
pub use Rattle.run_stage.specs.chan_map as chan_map
pub use Rattle.env_script.specs as env_script
pub use Rattle.run_laws.specs as run_laws
pub use Rattle.run_stage.specs.run_model as run_model
pub use Rattle.run_stage.specs as run_stage
pub use Rattle.env_script.specs.trace_model as trace_model
