pub mod Limits
pub mod Literal
pub mod Names
pub mod Table
pub mod Operators
pub mod Sides
pub mod Size
pub mod Facts
pub mod Kinds
pub use Rattle.vlog_tree.specs.vidi_bits as vidi_bits
pub use Rattle.vlog_tree.specs.vlog_lex as vlog_lex
