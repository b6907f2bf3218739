pub mod Given
pub mod Playing
