pub mod Lines
pub mod Plain
pub mod Shape
pub mod Spelling
pub mod Tree
pub mod Words
pub use Rattle.vlog_lex.specs.vidi_bits as vidi_bits
pub use Rattle.vlog_lex.specs as vlog_lex
