pub mod Marks
pub mod Rows
pub use Rattle.vlog_lex.proofs.vidi_bits_lemmas as vidi_bits_lemmas
pub use Rattle.vlog_lex.proofs as vlog_lex_lemmas
