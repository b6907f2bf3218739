pub mod Findings
pub mod Kinds
pub mod Marked
pub mod Reasons
pub mod Laws
pub use Rattle.flat_parts.specs as flat_parts
pub use Rattle.flat_parts.specs.vlog_driver as vlog_driver
pub use Rattle.flat_parts.specs.vlog_elab as vlog_elab
pub use Rattle.flat_parts.specs.vlog_hierarchy as vlog_hierarchy
pub use Rattle.flat_parts.specs.vlog_names as vlog_names
pub use Rattle.flat_parts.specs.vlog_size as vlog_size
