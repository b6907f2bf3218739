pub mod ItemFound
pub mod ItemNatural
pub mod ItemSpelled
pub use Rattle.vlog_stmt.proofs.vidi_bits_lemmas as vidi_bits_lemmas
pub use Rattle.vlog_stmt.proofs.vlog_expr_lemmas as vlog_expr_lemmas
pub use Rattle.vlog_stmt.proofs.vlog_lex_lemmas as vlog_lex_lemmas
pub use Rattle.vlog_stmt.proofs as vlog_stmt_lemmas
