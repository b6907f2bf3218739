-- Lemmas of crates below that functions of this crate name for their goals.
pub use Rattle.net_design.proofs.LawfulCode.{driver_sized}
