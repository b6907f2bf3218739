-- Lemmas of crates below that functions of this crate name for their goals.
pub use Rattle.vlog_hierarchy.proofs.vidi_bits_lemmas.FindingLaws.{none_map}
