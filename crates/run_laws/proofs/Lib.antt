pub mod Chaining
pub mod StretchLaws
pub mod Ending
pub mod Behind
