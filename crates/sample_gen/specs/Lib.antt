pub mod Sequence
pub mod Design
pub mod Joint
pub mod Sample
pub mod Accepted
pub use Rattle.room_ledger.specs as room_ledger
pub use Rattle.env_script.specs as env_script
pub use Rattle.room_ledger.specs.trace_model as trace_model
