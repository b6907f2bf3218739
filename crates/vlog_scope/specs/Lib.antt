pub mod Extents
pub mod Params
pub mod Given
pub mod Scope
pub mod Faults
