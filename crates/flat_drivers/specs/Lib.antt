pub mod Latches
pub mod Seated
pub mod Adding
pub mod Laws
pub use Rattle.flat_parts.specs.vlog_driver.Duties
