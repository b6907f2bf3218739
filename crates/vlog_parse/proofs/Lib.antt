pub mod DepthLemmas
pub mod FileClauses
pub mod FileFound
pub mod FileNatural
pub mod FileSpelled
pub mod FileWhole
pub mod Longest
pub mod Maps
pub mod Turns
pub mod UnitSteps
pub mod UnitWords
mod Passed
pub use Rattle.vlog_item.proofs.vidi_bits_lemmas as vidi_bits_lemmas
pub use Rattle.vlog_item.proofs.vlog_expr_lemmas as vlog_expr_lemmas
pub use Rattle.vlog_item.proofs.vlog_lex_lemmas as vlog_lex_lemmas
