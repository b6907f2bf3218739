pub mod Tables
pub mod Children
pub mod Traces
pub mod Inputs
pub mod Named
pub mod Placed
pub mod Positions
pub use Rattle.flat_parts.proofs as flat_parts_lemmas
