pub mod Told
pub mod Clock
pub mod Errors
pub mod Inside
pub mod Instances
pub mod Plain
pub mod Reasons
pub use Rattle.vlog_hierarchy.specs.Outlines
pub use Rattle.vlog_scope.specs.Scope
pub use Rattle.vlog_hierarchy.specs.Nested
pub use Rattle.vlog_hierarchy.specs.vidi_bits as vidi_bits
pub use Rattle.vlog_hierarchy.specs as vlog_hierarchy
pub use Rattle.vlog_names.specs as vlog_names
pub use Rattle.vlog_scope.specs as vlog_scope
pub use Rattle.vlog_hierarchy.specs.vlog_size as vlog_size
