pub mod Added
pub mod Firsts
pub mod Places
pub mod Same
mod Passed
pub use Rattle.vlog_hierarchy.proofs.vidi_bits_lemmas as vidi_bits_lemmas
pub use Rattle.vlog_hierarchy.proofs as vlog_hierarchy_lemmas
pub use Rattle.vlog_names.proofs as vlog_names_lemmas
pub use Rattle.vlog_scope.proofs as vlog_scope_lemmas
pub use Rattle.vlog_hierarchy.proofs.vlog_size_lemmas as vlog_size_lemmas
