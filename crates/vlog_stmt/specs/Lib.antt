pub mod BareStmt
pub mod Laws
pub mod StmtReader
pub use Rattle.vlog_expr.specs.vidi_bits as vidi_bits
pub use Rattle.vlog_expr.specs as vlog_expr
pub use Rattle.vlog_expr.specs.vlog_lex as vlog_lex
