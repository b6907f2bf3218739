pub mod Findings
pub mod Tally
pub mod Walking
