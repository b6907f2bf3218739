pub mod Different
pub mod Entries
pub mod Ports
pub mod Roles
pub mod Selects
pub mod Told
pub mod Twice
pub mod Unknown
pub mod Uses
pub use Rattle.vlog_size.specs.Kinds
pub use Rattle.vlog_size.specs.Table
pub use Rattle.vlog_size.specs.vidi_bits as vidi_bits
pub use Rattle.vlog_size.specs as vlog_size
