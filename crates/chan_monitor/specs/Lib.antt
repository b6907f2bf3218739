pub mod Passing
pub mod Shell
pub mod Entering
pub mod Showing
pub mod Around
pub use Rattle.run_model.specs.chan_map as chan_map
pub use Rattle.run_model.specs as run_model
pub use Rattle.run_model.specs.vidi_bits as vidi_bits
