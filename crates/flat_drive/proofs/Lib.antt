pub mod Counted
pub mod Inputs
pub mod Judging
pub mod Marking
pub mod Places
pub mod Told
