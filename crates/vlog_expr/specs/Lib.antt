pub mod Bare
pub mod Given
pub mod Lawful
pub mod Laws
pub mod Marks
pub mod Reader
pub use Rattle.vlog_tree.specs.vidi_bits as vidi_bits
pub use Rattle.vlog_tree.specs.vlog_lex as vlog_lex
