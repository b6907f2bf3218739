pub mod Told
pub mod Added
pub mod Paths
pub mod Seats
pub mod Copies
pub mod Declared
pub mod Lawful
pub mod Faultless
mod Passed
