pub mod Frame
pub mod Rooms
pub mod Masks
pub mod State
pub mod Words
pub mod Coded
pub mod Driven
