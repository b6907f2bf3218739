pub mod Memory
pub mod Lack
pub mod Stands
pub mod Example
pub mod Laws
pub use Rattle.axi_burst.specs as axi_burst
pub use Rattle.env_script.specs as env_script
pub use Rattle.env_script.specs.trace_model as trace_model
