pub mod Climb
pub mod Found
pub mod LawfulFront
pub mod Maps
pub mod Natural
pub mod Spelled
pub mod TargetFound
pub mod TargetNatural
pub mod TargetSpelled
pub mod Turns
pub mod Whole
pub use Rattle.vlog_tree.proofs.vidi_bits_lemmas as vidi_bits_lemmas
pub use Rattle.vlog_tree.proofs.vlog_lex_lemmas as vlog_lex_lemmas
