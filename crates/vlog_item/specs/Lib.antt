pub mod BareItem
pub mod ItemReader
pub mod Laws
pub use Rattle.vlog_stmt.specs.vidi_bits as vidi_bits
pub use Rattle.vlog_stmt.specs.vlog_expr as vlog_expr
pub use Rattle.vlog_stmt.specs.vlog_lex as vlog_lex
