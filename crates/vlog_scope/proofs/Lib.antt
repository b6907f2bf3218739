pub mod Named
pub mod Overridden
pub mod Fronts
pub mod Refused
pub mod Declared
pub mod Sound
pub mod LawfulParams
pub mod LawfulPlaces
pub mod EitherFaults
mod Passed
