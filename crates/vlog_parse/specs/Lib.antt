pub mod BareFile
pub mod Depth
pub mod FileLaws
pub mod FileReader
pub mod Parsing
pub mod UnitReader
pub mod Units
pub use Rattle.vlog_item.specs.vlog_expr.Marks
pub use Rattle.vlog_item.specs.vidi_bits as vidi_bits
pub use Rattle.vlog_item.specs.vlog_expr as vlog_expr
pub use Rattle.vlog_item.specs.vlog_lex as vlog_lex
