pub mod MapOf
pub mod Pins
pub mod Step
pub mod Offers
pub mod Played
pub mod Run
pub mod Replay
pub mod Held
pub mod Laws
pub mod Building
pub mod Alike
pub mod AlikeLaws
pub mod Stretches
pub use Rattle.chan_map.specs as chan_map
pub use Rattle.chan_map.specs.trace_model as trace_model
pub use Rattle.chan_map.specs.vidi_bits as vidi_bits
