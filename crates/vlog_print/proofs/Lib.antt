pub mod Again
pub mod GoodWords
pub mod Printed
pub use Rattle.vlog_parse.proofs.vidi_bits_lemmas as vidi_bits_lemmas
