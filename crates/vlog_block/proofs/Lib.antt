pub mod Words
pub mod Clips
pub mod Fitting
pub mod Ranges
pub mod Taken
pub mod Places
pub mod Names
pub mod Extending
pub mod Lengthening
pub mod Statements
mod Examples
pub mod Labels
