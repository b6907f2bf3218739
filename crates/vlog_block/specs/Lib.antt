pub mod Sources
pub mod Value
pub mod Places
pub mod Bits
pub mod Fit
pub mod Targets
pub mod Updates
pub mod Written
pub mod Naming
pub mod Faultless
pub mod Extends
pub use Rattle.vlog_size.specs as vlog_size
