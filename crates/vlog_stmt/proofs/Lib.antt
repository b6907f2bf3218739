pub mod ListFound
pub mod ListNatural
pub mod ListSpelled
pub mod Maps
pub mod Starts
pub mod Steps
pub mod StmtFound
pub mod StmtNatural
pub mod StmtSpelled
pub mod Sure
pub mod Turns
pub use Rattle.vlog_expr.proofs.vidi_bits_lemmas as vidi_bits_lemmas
pub use Rattle.vlog_expr.proofs as vlog_expr_lemmas
pub use Rattle.vlog_expr.proofs.vlog_lex_lemmas as vlog_lex_lemmas
