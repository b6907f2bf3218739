pub mod BitMap
pub mod Found
pub mod Moved
pub mod Tally
pub mod Targets
pub use Rattle.net_design.specs.vidi_bits as vidi_bits
