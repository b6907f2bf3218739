-- Lemmas of crates below that functions of this crate name for their goals.
pub use Rattle.vlog_size.proofs.vidi_bits_lemmas.Lists.{take_whole}
