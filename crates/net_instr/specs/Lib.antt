pub mod Machine
pub mod Layout
pub mod Expressions
pub mod Statements
pub mod InPlace
pub mod Needs
