pub mod Found
pub mod Moved
pub mod Stories
pub mod Parts
pub mod Laws
pub mod Example
pub use Rattle.trace_model.specs as trace_model
