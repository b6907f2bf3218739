-- Lemmas of crates below that functions of this crate name for their goals.
pub use Rattle.vlog_tree.proofs.vidi_bits_lemmas.Bools.{and_grouped}
pub use Rattle.vlog_tree.proofs.vidi_bits_lemmas.Lists.{take_whole}
